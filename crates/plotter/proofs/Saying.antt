-- From what a text says to what the reader answers, and to what is written.
use Rattle.std.proofs.Common.{◌≡◌, ℕ, zero, suc, ◌<◌, ◌≤◌, Bool, true, false, cond, ltb, List, [], ◌∷◌, map, length, take, drop, is_some, None, Ok, Err, Result, sym, refl, ap, ◌∙◌, subst, arith, length-append}
use Rattle.std.specs.List.{AllByRecursion}
use Rattle.std.proofs.lemmas.List.{length-map, take_at}
use Rattle.std.proofs.lemmas.Bool.{le-ltb, not_from_true}
use Rattle.rules.specs.declared.blocks.Size.{Size}
use Rattle.rules.specs.declared.refusals.Refusal.{Refusal}
use Rattle.rules.specs.declared.refusals.Refusal.TheVariants.{MemoryTooShort}
use Rattle.rules.specs.Plans.{size_at, size_fits}
use Rattle.rules.specs.Loads.{first, wrong_size, given_plan}
use Rattle.promises.specs.Packs.{placements}
use Rattle.names.specs.declared.entries.Entry.{Entry}
use Rattle.names.specs.Entries.{marked}
use Rattle.names.proofs.Marked.{name_is_marked}
use Rattle.reader.specs.Text.{Block, Answer, said, in_room, entry_of, answer_of, records_after}
use Rattle.reader.specs.Found.{Named}
use Rattle.writer.specs.Texts.{refusal_line}
use Rattle.writer.specs.Answers.{unnamed}
use Rattle.heap_tree.specs.Heap.{heap_given}
use Rattle.heap_tree.proofs.Passing.{none_first}
use Rattle.plotter.specs.Plots.{size_of, plan_of_entries, named_text, Tells}
use Rattle.plotter.specs.Said.{names, sizes, places, plot_text, PlotTells}
use Rattle.plotter.proofs.Accepted.{Fits, said_fine}

-- an answer that is Ok is not Err, and has one value
ok_err : {A : Type 0} (a : A) (e : Refusal) → Err e ≡ Ok a → ⊥
ok_err a e h = let z : ◌≡◌ {A = ℕ} 0 1 = cc in omega arith

ok_same : (a b : ℕ) → ◌≡◌ {A = Result ℕ Refusal} (Ok a) (Ok b) → a ≡ b
ok_same a b h = cc

-- what the text says, where the reader answers a number
pub record Reading (text : List ℕ) (n : ℕ) (records : List Entry) : Type 0 where
  pub told : List Block
  pub says : said text ≡ Ok told
  pub entries : take n records ≡ map entry_of told
  pub within : n ≤ length records

read_in : (text : List ℕ) (bs : List Block) (short : Bool) (n : ℕ) (before after : List Entry) → said text ≡ Ok bs → Ok n ≡ answer_of (cond short (Err MemoryTooShort) (Ok bs))
    → after ≡ records_after (cond short (Err MemoryTooShort) (Ok bs)) before → Reading text n after
read_in text bs true n before after is a r = absurd (ok_err n MemoryTooShort (sym a))
read_in text bs false n before after is a r =
    let count = ok_same n (length bs) a in
    let long = length-map bs entry_of in
    record {
      told = bs;
      says = is;
      entries = ap (take n) r ∙ take_at (map entry_of bs) _ n (long ∙ sym count);
      within = omega (arith, ap length r, length-append (map entry_of bs) (drop (length bs) before), long);
    }

read_by : (text : List ℕ) (room n : ℕ) (before after : List Entry) (s : Answer) → said text ≡ s → Ok n ≡ answer_of (in_room room s) → after ≡ records_after (in_room room s) before → Reading text n after
read_by text room n before after (Err e) is a r = absurd (ok_err n e (sym a))
read_by text room n before after (Ok bs) is a r = read_in text bs (ltb room (length bs)) n before after is a r

pub reading : (text : List ℕ) (room n : ℕ) (before after : List Entry) → Ok n ≡ answer_of (in_room room (said text)) → after ≡ records_after (in_room room (said text)) before → Reading text n after
reading text room n before after answer records = read_by text room n before after (said text) refl answer records

-- and where it answers a refusal, with room for 512 blocks
refused_by : (text : List ℕ) (room : ℕ) (e : Refusal) → 512 ≤ room → (s : Answer) → said text ≡ s → Err e ≡ answer_of (in_room room s) → said text ≡ Err e
refused_by text room e many (Err x) is a = let same : x ≡ e = cc in is ∙ ap Err same
refused_by text room e many (Ok bs) is a =
    let few = (said_fine text bs is).few in
    let fits = le-ltb room (length bs) (omega arith) in
    absurd (ok_err (length bs) e (a ∙ ap (λ t. answer_of (cond t (Err MemoryTooShort) (Ok bs))) fits))

pub refusing : (text : List ℕ) (room : ℕ) (e : Refusal) → 512 ≤ room → Err e ≡ answer_of (in_room room (said text)) → said text ≡ Err e
refusing text room e many answer = refused_by text room e many (said text) refl answer

-- the entries of blocks with names in the text, and with sides in range
named_at : (text : List ℕ) (bs : List Block) → AllByRecursion (Named text) bs → (k : ℕ) → k < length (map entry_of bs) → unnamed text (map entry_of bs) k ≡ false
named_at text [] h k l = absurd (omega arith)
named_at text (b ∷ bs) h zero l = not_from_true _ (ap is_some h.0)
named_at text (b ∷ bs) h (suc k) l = named_at text bs h.1 k (omega arith)

fits_at : (bs : List Block) → AllByRecursion Fits bs → (k : ℕ) → k < length (map size_of (map entry_of bs)) → size_fits (size_at (map size_of (map entry_of bs)) k) ≡ true
fits_at [] h k l = absurd (omega arith)
fits_at (b ∷ bs) h zero l = h.0
fits_at (b ∷ bs) h (suc k) l = fits_at bs h.1 k (omega arith)

names_are : (text : List ℕ) (bs : List Block) → AllByRecursion (Named text) bs → map (marked text) (map entry_of bs) ≡ names bs
names_are text [] h = refl
names_are text (b ∷ bs) h = λ j. sym (name_is_marked text (entry_of b) b.name (sym h.0)) j ∷ names_are text bs h.1 j

sizes_are : (bs : List Block) → map size_of (map entry_of bs) ≡ sizes bs
sizes_are [] = refl
sizes_are (b ∷ bs) = ap (λ (ss : List Size). b.size ∷ ss) (sizes_are bs)

-- entries that can be plotted
pub record Ready (text : List ℕ) (es : List Entry) : Type 0 where
  pub short : length text ≤ 65536
  pub few : length es ≤ 512
  pub named : (k : ℕ) → k < length es → unnamed text es k ≡ false
  pub sized : first (wrong_size (map size_of es)) 0 (length (map size_of es)) ≡ None

module _ (text : List ℕ) (bs : List Block) (es : List Entry) (says : said text ≡ Ok bs) (is : es ≡ map entry_of bs) (all : AllByRecursion (Named text) bs) where
  pub ready : Ready text es
  ready =
      let fine = said_fine text bs says in
      subst (Ready text) (sym is) (record {
        short = fine.short;
        few = omega (arith, length-map bs entry_of, fine.few);
        named = named_at text bs all;
        sized = none_first (wrong_size (map size_of (map entry_of bs))) 0 _ (λ k l h. not_from_true _ (fits_at bs fine.fit k (omega arith)));
      })

  places_are : placements (plan_of_entries es) ≡ places bs
  unfolding places
  places_are = ap (λ (es : List Entry). placements (plan_of_entries es)) is ∙ ap (λ (ss : List Size). placements (given_plan (heap_given ss))) (sizes_are bs)

  marks_are : map (marked text) es ≡ names bs
  marks_are = ap (λ (es : List Entry). map (marked text) es) is ∙ names_are text bs all

  pub plotted_is : named_text (map (marked text) es) (placements (plan_of_entries es)) ≡ plot_text (said text)
  unfolding plot_text
  plotted_is = (λ j. named_text (marks_are j) (places_are j)) ∙ ap plot_text (sym says)

  pub plot_tells : (after : List ℕ) (r : Result ℕ Refusal) → Tells (map (marked text) es) (placements (plan_of_entries es)) after r → PlotTells (said text) after r
  plot_tells after r t = subst (λ (s : Answer). PlotTells s after r) (sym says) (subst (λ ns. Tells ns (places bs) after r) marks_are (subst (λ ps. Tells (map (marked text) es) ps after r) places_are t))

-- the line of a refusal
pub refused_is : (text : List ℕ) (e : Refusal) → said text ≡ Err e → refusal_line e ≡ plot_text (said text)
unfolding plot_text
refused_is text e says = ap plot_text (sym says)

pub refused_tells : (text after : List ℕ) (e : Refusal) (r : Result ℕ Refusal) → said text ≡ Err e → PlotTells (said text) after r
refused_tells text after e r says = subst (λ (s : Answer). PlotTells s after r) (sym says) tt
