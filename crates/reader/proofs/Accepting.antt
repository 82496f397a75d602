-- A text says its blocks just if it is accepted.
use Rattle.std.proofs.Common.{◌≡◌, ℕ, suc, ◌+◌, ◌≤◌, false, not, ◌&&◌, eqb, ltb, leb, List, [], ◌∷◌, ◌++◌, length, is_some, Some, None, Ok, Err, codes, Option, Result, sym, refl, ap, ◌∙◌, subst, ⊎_elim, append_assoc, arith}
use Rattle.std.proofs.lemmas.List.{append-nil}
use Rattle.std.proofs.lemmas.Bool.{cond-true, cond-false, cond_both, cases_Bool, cases_lt, and_parts, and_from, eqb-true, eq-eqb, lt-ltb, le-ltb, leb-false, lt-leb, not-false}
use Rattle.rules.specs.declared.blocks.Size.{Size}
use Rattle.rules.specs.declared.refusals.Refusal.{Refusal}
use Rattle.rules.specs.Plans.{size_fits}
use Rattle.words.specs.Words.{Word}
use Rattle.grammar.specs.declared.outlines.Corners.{Corners}
use Rattle.grammar.specs.Lines.{Line, used_from}
use Rattle.grammar.specs.Forms.{header_of, count_of, terminal_of, outline_of, size_of}
use Rattle.grammar.specs.Relations.{Header, CountLine, rectangle, BlockLine}
use Rattle.grammar.proofs.Exact.{some_since, header_law, count_law, terminal_law, size_law, block_law}
use Rattle.reader.specs.declared.counts.Counts.{Counts}
use Rattle.reader.specs.Text.{Answer, Block, and_then, known, words_of, block_in, new_block, sized_block, outlined_block, counted, body, header_due, count_found, count_due, said_by}
use Rattle.reader.specs.Accepted.{BlockIn, BodyLines, end_of_lines, terminal_line, block_line, Accepted, AcceptedLaw}
use Rattle.reader.proofs.Dues.{then_body, then_terminals, then_hard, then_soft}
use Rattle.reader.proofs.Gathering.{err_ok, with_terminal, with_block, with_outline}

-- a line whose block is taken
module _ (before : List Block) (l : Line) (b : Block) where
  new_in : (n : Word) (s : Size) → BlockLine (words_of l) n s → new_block before l n s ≡ Ok b → BlockIn before l b
  new_in n s says =
      let P : Result Block Refusal → Type 0 = λ r. r ≡ Ok b → BlockIn before l b in
      cond_both (not (size_fits s)) _ _ P (λ t e. absurd (err_ok e))
      (λ f. cond_both (known n before) _ _ P (λ t e. absurd (err_ok e))
      (λ g. cond_both (leb 512 (length before)) _ _ P (λ t e. absurd (err_ok e))
      (λ h e.
      let is : block_in l n s ≡ b = cc e in
      subst (BlockIn before l) is
      (record { says = says; place = refl; fits = not-false _ f; new = g; room = leb-false 512 (length before) h }))))

  sized_in : (n : Word) (q : Corners) (o : Option Size) → outline_of (words_of l) ≡ Some (n, q) → size_of q ≡ o → sized_block before l n o ≡ Ok b → BlockIn before l b
  sized_in n q None says is e = absurd (err_ok e)
  sized_in n q (Some s) says is e = new_in n s ((block_law (words_of l) n s).0 q says is) e

  outlined_in : (o : Option (Word × Corners)) → outline_of (words_of l) ≡ o → outlined_block before l o ≡ Ok b → BlockIn before l b
  outlined_in None says e = absurd (err_ok e)
  outlined_in (Some p) says e = sized_in p.0 p.1 (size_of p.1) says refl e

  -- and back
  in_sized : (i : BlockIn before l b) → sized_block before l b.name (size_of (rectangle b.size)) ≡ Ok b
  in_sized i =
      ap (sized_block before l b.name) ((size_law (rectangle b.size) b.size).1 refl) ∙
      cond-false (not (size_fits b.size)) _ _ (ap not i.fits) ∙ cond-false (known b.name before) _ _ i.new ∙
      cond-false (leb 512 (length before)) _ _ (lt-leb 512 (length before) i.room) ∙
      ap (λ k. Ok (record { name = b.name; start = k; size = b.size })) (sym i.place)

  -- a block line is no terminal line: it has 23 words, and not 2
  in_other : (i : BlockIn before l b) → is_some (terminal_of (words_of l)) ≡ false
  in_other i =
      let line = i.says in
      let v = line.vertices in
      ⊎_elim
      (λ t.
      let found = some_since (terminal_of (words_of l)) t in
      absurd
      (omega
      (arith, ap length (sym ((terminal_law (words_of l) found.0).0 found.1).form ∙ line.form), ap length v.v1.form)))
      (λ f. f)
      (cases_Bool (is_some (terminal_of (words_of l))))

-- what a body of lines says
record BodySaid (c : Counts) (before : List Block) (t : ℕ) (ls : List Line) (out : List Block) : Type 0 where
  pub more : List Block
  pub count : ℕ
  pub out_is : before ++ more ≡ out
  pub lines : BodyLines before ls more count
  pub soft_is : c.soft ≡ 0
  pub hard_is : c.hard ≡ length out
  pub terminals_is : c.terminals ≡ t + count

counted_inv : (c : Counts) (bs : List Block) (t : ℕ) (out : List Block) → counted c bs t ≡ Ok out → (bs ≡ out) × (c.soft ≡ 0) × (c.hard ≡ length bs) × (c.terminals ≡ t)
counted_inv c bs t out e =
    let test = eqb c.soft 0 && (eqb c.hard (length bs) && eqb c.terminals t) in
    ⊎_elim
    (λ y.
    let one = and_parts (eqb c.soft 0) _ y in
    let two = and_parts (eqb c.hard (length bs)) _ one.1 in
    let same : bs ≡ out = cc (sym (cond-true test (Ok bs) (Err _) y) ∙ e) in
    (same, eqb-true _ _ one.0, eqb-true _ _ two.0, eqb-true _ _ two.1))
    (λ n. absurd (err_ok (sym (cond-false test (Ok bs) (Err _) n) ∙ e)))
    (cases_Bool test)

-- what follows a block that is taken
then_inv : {B : Type 0} (r : Result Block Refusal) (f : Block → Result B Refusal) (out : B) → and_then r f ≡ Ok out → (b : Block) × ((r ≡ Ok b) × (f b ≡ Ok out))
then_inv (Ok b) f out e = (b, (refl, e))
then_inv (Err x) f out e = absurd (err_ok e)

body_end : (c : Counts) (before : List Block) (t : ℕ) → counted c before t ≡ body c before t []
unfolding body
body_end c before t = refl

body_says : (c : Counts) (before : List Block) (t : ℕ) (ls : List Line) (out : List Block) → body c before t ls ≡ Ok out → BodySaid c before t ls out
body_says c before t [] out e =
    let k = counted_inv c before t out (body_end c before t ∙ e) in
    record {
      more = [];
      count = 0;
      out_is = append-nil before ∙ k.0;
      lines = end_of_lines;
      soft_is = k.1;
      hard_is = k.2 ∙ ap length k.0;
      terminals_is = omega (arith, k.3);
    }
body_says c before t (l ∷ ls) out e =
    ⊎_elim
    (λ y.
    let found = some_since (terminal_of (words_of l)) y in
    let rest = body_says c before (t + 1) ls out (sym (with_terminal c before t l ls y) ∙ e) in
    record {
      more = rest.more;
      count = suc rest.count;
      out_is = rest.out_is;
      lines = terminal_line found.0 ((terminal_law (words_of l) found.0).0 found.1) rest.lines;
      soft_is = rest.soft_is;
      hard_is = rest.hard_is;
      terminals_is = let n = rest.terminals_is in omega arith;
    })
    (λ n.
    let taken = then_inv _ _ out (sym (with_block c before t l ls n) ∙ e) in
    let b = taken.0 in
    let rest = body_says c (before ++ b ∷ []) t ls out taken.1.1 in
    record {
      more = b ∷ rest.more;
      count = rest.count;
      out_is = sym (append_assoc before (b ∷ []) rest.more) ∙ rest.out_is;
      lines = block_line (outlined_in before l b (outline_of (words_of l)) refl taken.1.0) rest.lines;
      soft_is = rest.soft_is;
      hard_is = rest.hard_is;
      terminals_is = rest.terminals_is;
    })
    (cases_Bool (is_some (terminal_of (words_of l))))

-- and back
body_of : {before : List Block} {ls : List Line} {bs : List Block} {k : ℕ} → BodyLines before ls bs k → (c : Counts) (t : ℕ) → body c before t ls ≡ counted c (before ++ bs) (t + k)
body_of {before} end_of_lines = λ c t.
    let none : t + 0 ≡ t = omega arith in
    sym (body_end c before t) ∙ (λ i. counted c (sym (append-nil before) i) (sym none i))
body_of {before} (terminal_line {l = l} {ls = ls} {bs = bs} {t = k} n line more) = λ c t.
    let next : t + 1 + k ≡ t + suc k = omega arith in
    with_terminal c before t l ls (ap is_some ((terminal_law (words_of l) n).1 line)) ∙ body_of more c (t + 1) ∙ ap (counted c (before ++ bs)) next
body_of {before} (block_line {l = l} {ls = ls} {b = b} {bs = bs} {t = k} i more) = λ c t.
    with_outline c before t l ls (in_other before l b i) b.name (rectangle b.size) (Ok b) ((block_law (words_of l) b.name b.size).1 i.says) (in_sized before l b i) ∙
    body_of more c t ∙ ap (λ bs. counted c bs (t + k)) (append_assoc before (b ∷ []) bs)

-- the lines in front of the body
record HeaderFirst (lines : List Line) (next : List Line → Answer) (out : List Block) : Type 0 where
  pub line : Line
  pub rest : List Line
  pub form : lines ≡ line ∷ rest
  pub is : Header (words_of line)
  pub goes_on : next rest ≡ Ok out

header_inv : (lines : List Line) (next : List Line → Answer) (out : List Block) → header_due lines next ≡ Ok out → HeaderFirst lines next out
header_inv [] next out e = absurd (err_ok e)
header_inv (l ∷ ls) next out e =
    let test = is_some (header_of (words_of l)) in
    ⊎_elim
    (λ y. record { line = l; rest = ls; form = refl; is = (header_law (words_of l)).0 y; goes_on = sym (cond-true test (next ls) (Err _) y) ∙ e })
    (λ n. absurd (err_ok (sym (cond-false test (next ls) (Err _) n) ∙ e)))
    (cases_Bool test)

record CountFirst (label : Word) (lines : List Line) (next : ℕ → List Line → Answer) (out : List Block) : Type 0 where
  pub line : Line
  pub rest : List Line
  pub count : ℕ
  pub form : lines ≡ line ∷ rest
  pub is : CountLine label (words_of line) count
  pub goes_on : next count rest ≡ Ok out

found_inv : (label : Word) (l : Line) (ls : List Line) (next : ℕ → List Line → Answer) (out : List Block) (o : Option ℕ) → count_of label (words_of l) ≡ o → count_found o l ls next ≡ Ok out → CountFirst label (l ∷ ls) next out
found_inv label l ls next out None says e = absurd (err_ok e)
found_inv label l ls next out (Some n) says e = record { line = l; rest = ls; count = n; form = refl; is = (count_law label (words_of l) n).0 says; goes_on = e }

count_inv : (label : Word) (lines : List Line) (next : ℕ → List Line → Answer) (out : List Block) → count_due label lines next ≡ Ok out → CountFirst label lines next out
count_inv label [] next out e = absurd (err_ok e)
count_inv label (l ∷ ls) next out e = found_inv label l ls next out (count_of label (words_of l)) refl e

lines_accepted : (text : List ℕ) (blocks : List Block) → length text ≤ 65536 → said_by (used_from 1 0 text) ≡ Ok blocks → Accepted text blocks
lines_accepted text blocks few e =
    let h = header_inv (used_from 1 0 text) then_soft blocks e in
    let s = count_inv (codes "NumSoftRectangularBlocks") h.rest then_hard blocks h.goes_on in
    let d = count_inv (codes "NumHardRectilinearBlocks") s.rest (then_terminals s.count) blocks s.goes_on in
    let t = count_inv (codes "NumTerminals") d.rest (then_body s.count d.count) blocks d.goes_on in
    let b = body_says (record { soft = s.count; hard = d.count; terminals = t.count }) [] 0 t.rest blocks t.goes_on in
    let all : t.count ≡ b.count = let n = b.terminals_is in omega arith in
    record {
      few = few;
      header = h.line;
      soft = s.line;
      hard = d.line;
      terminals = t.line;
      rest = t.rest;
      count = b.count;
      lines =
          h.form ∙ ap (λ ls. h.line ∷ ls) (s.form ∙ ap (λ ls. s.line ∷ ls) (d.form ∙ ap (λ ls. d.line ∷ ls) t.form));
      header_is = h.is;
      soft_is = subst (CountLine (codes "NumSoftRectangularBlocks") (words_of s.line)) b.soft_is s.is;
      hard_is = subst (CountLine (codes "NumHardRectilinearBlocks") (words_of d.line)) b.hard_is d.is;
      terminals_is = subst (CountLine (codes "NumTerminals") (words_of t.line)) all t.is;
      body_is = subst (λ bs. BodyLines [] t.rest bs b.count) b.out_is b.lines;
    }

-- and back
count_said : (label : Word) (l : Line) (ls : List Line) (n : ℕ) (next : ℕ → List Line → Answer) → CountLine label (words_of l) n → count_due label (l ∷ ls) next ≡ next n ls
count_said label l ls n next line = ap (λ o. count_found o l ls next) ((count_law label (words_of l) n).1 line)

accepted_said : (text : List ℕ) (blocks : List Block) → Accepted text blocks → said_by (used_from 1 0 text) ≡ Ok blocks
accepted_said text blocks a =
    let n = length blocks in
    let c : Counts = record { soft = 0; hard = n; terminals = a.count } in
    let none : 0 + a.count ≡ a.count = omega arith in
    ap said_by a.lines ∙
    cond-true (is_some (header_of (words_of a.header))) _ _ ((header_law (words_of a.header)).1 a.header_is) ∙
    count_said (codes "NumSoftRectangularBlocks") a.soft _ 0 then_hard a.soft_is ∙
    count_said (codes "NumHardRectilinearBlocks") a.hard _ n (then_terminals 0) a.hard_is ∙
    count_said (codes "NumTerminals") a.terminals _ a.count (then_body 0 n) a.terminals_is ∙
    body_of a.body_is c 0 ∙ ap (counted c blocks) none ∙
    cond-true (eqb n n && eqb a.count a.count) (Ok blocks) (Err _) (and_from (eqb n n) _ (eq-eqb n n refl) (eq-eqb a.count a.count refl))

pub accepted_law : AcceptedLaw
accepted_law text blocks = (
  λ e.
      ⊎_elim (λ h. absurd (err_ok (sym (cond-true (ltb 65536 (length text)) _ _ (lt-ltb 65536 (length text) h)) ∙ e)))
      (λ h. lines_accepted text blocks h (sym (cond-false (ltb 65536 (length text)) _ _ (le-ltb 65536 (length text) h)) ∙ e))
      (cases_lt 65536 (length text)),
  λ a. cond-false (ltb 65536 (length text)) _ _ (le-ltb 65536 (length text) a.few) ∙ accepted_said text blocks a,
)
