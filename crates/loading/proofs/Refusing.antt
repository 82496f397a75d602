-- The tests of a load one after another: an answer that is not a test's own refusal comes from behind the test.
use Rattle.std.proofs.Common.{◌≡◌, ℕ, ◌<◌, ◌≤◌, Bool, true, false, not, ◌&&◌, eqb, ltb, ◌≢◌, length, Some, None, Ok, Err, Option, Result, sym, refl, ap, ◌∙◌, arith}
use Rattle.std.proofs.lemmas.Bool.{ltb-false, eqb-true, not-false, and_parts}
use Rattle.rules.specs.declared.refusals.Refusal.{Refusal}
use Rattle.rules.specs.declared.refusals.Refusal.TheVariants.{TooManyBlocks, LengthsDiffer, MemoryTooShort, SideOutOfRange, UnknownLetter, WrongChild}
use Rattle.rules.specs.Refusals.{number, when, answered}
use Rattle.rules.specs.Loads.{Given, first, when_found, wrong_size, wrong_letter, wrong_children, room_refusal, block_refusal, tree_refusal, load_refusal}

-- the answer's number; of a load that is accepted the next after the last test
abbrev pub stage : Option Refusal → ℕ
stage None = 9
stage (Some r) = number r

pub past_when : (b : Bool) (r : Refusal) (after x : Option Refusal) → number r ≢ stage x → when b r after ≡ x → (b ≡ false) × (after ≡ x)
past_when true r after x d e = absurd (d (ap stage e))
past_when false r after x d e = (refl, e)

pub past_found : (o : Option ℕ) (r : ℕ → Refusal) (after x : Option Refusal) → ((k : ℕ) → number (r k) ≢ stage x) → when_found o r after ≡ x → (o ≡ None) × (after ≡ x)
past_found (Some k) r after x d e = absurd (d k (ap stage e))
past_found None r after x d e = (refl, e)

-- what holds once the tests of lengths are passed
pub record Roomy (g : Given) : Type 0 where
  pub few : length g.sizes ≤ 512
  pub letters_long : length g.letters ≡ length g.sizes
  pub children_long : length g.children ≡ length g.sizes
  pub room : length g.sizes ≤ g.walk

-- what holds once those of single blocks are
pub record Fitting (g : Given) : Type 0 where
  pub sizes_fit : first (wrong_size g.sizes) 0 (length g.sizes) ≡ None
  pub letters_fit : first (wrong_letter g.letters) 0 (length g.letters) ≡ None
  pub children_fit : first (wrong_children g.children) 0 (length g.children) ≡ None

-- An answer behind these tests has a stage of 6 to 9.
pub past_room : (g : Given) (after x : Option Refusal) → 5 < stage x → stage x < 18 → room_refusal g after ≡ x → Roomy g × (after ≡ x)
past_room g after x lo hi e =
    let not_one : 1 ≢ stage x = λ q. omega arith in
    let not_two : 2 ≢ stage x = λ q. omega arith in
    let not_short : 18 ≢ stage x = λ q. omega arith in
    let one = past_when (ltb 512 (length g.sizes)) (TooManyBlocks 0) _ x not_one e in
    let two = past_when _ LengthsDiffer _ x not_two one.1 in
    let short = past_when _ MemoryTooShort after x not_short two.1 in
    let same = and_parts _ _ (not-false _ two.0) in (
      record {
        few = ltb-false _ _ one.0;
        letters_long = eqb-true _ _ same.0;
        children_long = eqb-true _ _ same.1;
        room = ltb-false _ _ short.0;
      },
      short.1,
    )

pub past_blocks : (g : Given) (after x : Option Refusal) → 5 < stage x → block_refusal g after ≡ x → Fitting g × (after ≡ x)
past_blocks g after x lo e =
    let not_three : (k : ℕ) → 3 ≢ stage x = λ k q. omega arith in
    let not_four : (k : ℕ) → 4 ≢ stage x = λ k q. omega arith in
    let not_five : (k : ℕ) → 5 ≢ stage x = λ k q. omega arith in
    let a = past_found _ SideOutOfRange _ x not_three e in
    let b = past_found _ UnknownLetter _ x not_four a.1 in
    let c = past_found _ WrongChild after x not_five b.1 in
    (record { sizes_fit = a.0; letters_fit = b.0; children_fit = c.0 }, c.1)

pub past_all : (g : Given) (x : Option Refusal) → 5 < stage x → stage x < 18 → load_refusal g ≡ x
    → Roomy g × Fitting g × (tree_refusal g.children g.root ≡ x)
unfolding load_refusal
past_all g x lo hi e =
    let a = past_room g _ x lo hi e in
    let b = past_blocks g _ x lo a.1 in
    (a.0, b.0, b.1)

-- an answer tells whether there is a refusal, and which
pub answered_ok : {X : Type 0} (o : Option Refusal) (x : X) → answered o x ≡ Ok x → o ≡ None
answered_ok None x e = refl
answered_ok (Some r) x e = absurd (let z : ◌≡◌ {A = ℕ} 0 1 = cc in omega arith)

pub answered_err : {X : Type 0} (o : Option Refusal) (x : X) (r : Refusal) → answered o x ≡ Err r → o ≡ Some r
answered_err None x r e = absurd (let z : ◌≡◌ {A = ℕ} 0 1 = cc in omega arith)
answered_err (Some s) x r e = cc

-- the answer of tests: the refusal of one, or that all are passed
abbrev pub Answers : Result (Unit {0}) Refusal → Option Refusal → Type 0
Answers r o = r ≡ answered o (tt {0})

-- the refusal, if there is one, else what comes after
abbrev or_else : Option Refusal → Option Refusal → Option Refusal
or_else (Some r) after = Some r
or_else None after = after

-- three tests, else what comes after
tests_else : (a b c : Bool) (p q r : Refusal) (after : Option Refusal) → when a p (when b q (when c r after)) ≡ or_else (when a p (when b q (when c r None))) after
tests_else true b c p q r after = refl
tests_else false true c p q r after = refl
tests_else false false true p q r after = refl
tests_else false false false p q r after = refl

searches_else : (a b c : Option ℕ) (p q r : ℕ → Refusal) (after : Option Refusal)
    → when_found a p (when_found b q (when_found c r after)) ≡ or_else (when_found a p (when_found b q (when_found c r None))) after
searches_else (Some k) b c p q r after = refl
searches_else None (Some k) c p q r after = refl
searches_else None None (Some k) p q r after = refl
searches_else None None None p q r after = refl

-- the tests of lengths, else those of single blocks, else those of the tree
load_else : (g : Given) → load_refusal g ≡ or_else (room_refusal g None) (or_else (block_refusal g None) (tree_refusal g.children g.root))
unfolding load_refusal
load_else g =
    let n = length g.sizes in
    tests_else (ltb 512 n) (not (eqb (length g.letters) n && eqb (length g.children) n)) (ltb g.walk n) (TooManyBlocks 0) LengthsDiffer MemoryTooShort _
    ∙ ap (or_else (room_refusal g None))
    (searches_else (first (wrong_size g.sizes) 0 n) (first (wrong_letter g.letters) 0 (length g.letters)) (first (wrong_children g.children) 0 (length g.children))
    SideOutOfRange UnknownLetter WrongChild (tree_refusal g.children g.root))

-- the answer of each group of tests is the load's, if the groups before it are passed
module _ (g : Given) where
  past_lengths : Answers (Ok tt) (room_refusal g None) → load_refusal g ≡ or_else (block_refusal g None) (tree_refusal g.children g.root)
  past_lengths a = load_else g ∙ ap (λ o. or_else o (or_else (block_refusal g None) (tree_refusal g.children g.root))) (answered_ok _ _ (sym a))

  pub from_room : (r : Refusal) → Answers (Err r) (room_refusal g None) → Answers (Err r) (load_refusal g)
  from_room r a =
      let o = or_else (block_refusal g None) (tree_refusal g.children g.root) in
      sym (ap (λ x. answered x tt) (load_else g ∙ ap (λ x. or_else x o) (answered_err _ _ r (sym a))))

  pub from_blocks : (r : Refusal) → Answers (Ok tt) (room_refusal g None) → Answers (Err r) (block_refusal g None) → Answers (Err r) (load_refusal g)
  from_blocks r a b = sym (ap (λ x. answered x tt) (past_lengths a ∙ ap (λ x. or_else x (tree_refusal g.children g.root)) (answered_err _ _ r (sym b))))

  pub from_tree : (x : Result (Unit {0}) Refusal) → Answers (Ok tt) (room_refusal g None) → Answers (Ok tt) (block_refusal g None)
      → Answers x (tree_refusal g.children g.root) → Answers x (load_refusal g)
  from_tree x a b t = t ∙ sym (ap (λ y. answered y tt) (past_lengths a ∙ ap (λ y. or_else y (tree_refusal g.children g.root)) (answered_ok _ _ (sym b))))
