-- The records of the placed blocks, block by block.
use Rattle.std.proofs.Common.{◌≡◌, ℕ, zero, suc, ◌+◌, ◌<◌, ◌≤◌, cond, eqb, List, [], ◌∷◌, ◌++◌, map, length, get_or, drop, set, replicate, sym, refl, ap, ◌∙◌, inl, inr, arith}
use Rattle.std.specs.List.{range_with_len}
use Rattle.std.proofs.lemmas.Bool.{cases_eq, eq-eqb, ne_eqb, cond-true, cond-false}
use Rattle.std.proofs.lemmas.List.{ext_get_or, length-set, get_or-set_same, get_or-set_other, set-append_left, length-append}
use Rattle.std.proofs.lemmas.List.FromFn.{length-map-range_with_len, get_or-map-range_with_len}
use Rattle.rules.specs.declared.placements.Placement.{Placement}
use Rattle.rules.specs.Packing.{Rect}
use Rattle.promises.specs.Packs.{nowhere, record_of}
use Rattle.packer.specs.Places.{recorded}

-- the record of a placed block
abbrev pub placement : Rect → Placement
placement q = record { x = q.x; y = q.y; width = q.width; height = q.height }

-- a list made of a function, with one element written over, is made of another function
set_counting : {X : Type 0} (f : ℕ → X) (n i : ℕ) (v : X) → i < n → set (map f (range_with_len 0 n)) i v ≡ map (λ j. cond (eqb i j) v (f j)) (range_with_len 0 n)
set_counting {X} f n i v h = ext_get_or v (set F i v) (map g (range_with_len 0 n)) (length-set F i v ∙ long ∙ sym (length-map-range_with_len g 0 n)) at
  where
    g : ℕ → X
    g = λ j. cond (eqb i j) v (f j)

    F : List X
    F = map f (range_with_len 0 n)

    long : length F ≡ n
    long = length-map-range_with_len f 0 n

    at : (k : ℕ) → k < length (set F i v) → get_or (set F i v) k v ≡ get_or (map g (range_with_len 0 n)) k v
    at k l =
        let short : k < n = omega (arith, length-set F i v, long) in
        let written = get_or-map-range_with_len g 0 n k k v short (omega arith) in
        elim (cases_eq k i) [
          | inl e ↦ ap (λ (j : ℕ). get_or (set F i v) j v) e ∙ get_or-set_same F i v v (omega (arith, long)) ∙ sym (cond-true _ v (f k) (eq-eqb i k (sym e))) ∙ sym written
          | inr d ↦ get_or-set_other F i k v v d ∙ get_or-map-range_with_len f 0 n k k v short (omega arith) ∙ sym (cond-false _ v (f k) (ne_eqb i k (λ e. d (sym e)))) ∙ sym written
        ]

-- one more block placed, and its record written
pub recorded_more : (ps : List Rect) (n : ℕ) (before : List Placement) (q : Rect) → q.block < n
    → set (recorded ps n before) q.block (placement q) ≡ recorded (q ∷ ps) n before
recorded_more ps n before q h =
    set-append_left (map (record_of ps) (range_with_len 0 n)) (drop n before) q.block (placement q) (omega (arith, length-map-range_with_len (record_of ps) 0 n))
    ∙ ap (λ (rs : List Placement). rs ++ drop n before) (set_counting (record_of ps) n q.block (placement q) h)

none_of : (a n : ℕ) → replicate n nowhere ≡ map (record_of []) (range_with_len a n)
none_of a zero = refl
none_of a (suc n) = ap (λ (rs : List Placement). nowhere ∷ rs) (none_of (a + 1) n)

-- the first k records blanked, k being n
pub recorded_none : {k n : ℕ} (before : List Placement) {after : List Placement} → k ≡ n → after ≡ replicate k nowhere ++ drop k before → after ≡ recorded [] n before
recorded_none {k} before e f = f ∙ ap (λ (rs : List Placement). rs ++ drop k before) (none_of 0 k) ∙ ap (λ (j : ℕ). recorded [] j before) e

pub recorded_long : (ps : List Rect) (n : ℕ) (before : List Placement) → n ≤ length (recorded ps n before)
recorded_long ps n before = omega (arith, length-append (map (record_of ps) (range_with_len 0 n)) (drop n before), length-map-range_with_len (record_of ps) 0 n)
