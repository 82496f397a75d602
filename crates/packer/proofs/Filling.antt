-- The skyline and the records under a walk that places blocks.
use Rattle.std.proofs.Common.{◌≡◌, ℕ, ◌+◌, ◌<◌, ◌≤◌, max, List, [], ◌∷◌, length, set, sym, refl, ap, ◌∙◌, subst, inl, inr, arith}
use Rattle.std.specs.List.{All}
use Rattle.std.proofs.lemmas.Bool.Decides.{nat_tests}
use Rattle.std.proofs.lemmas.Bool.{cases_lt}
use Rattle.std.proofs.lemmas.List.Elements.{All-head, All-tail, All-same}
use Rattle.rules.specs.declared.placements.Placement.{Placement}
use Rattle.rules.specs.Plans.{Plan}
use Rattle.rules.specs.Packing.{Rect, right_edge, top, highest, column, packed, reach, height}
use Rattle.rules.specs.Skylines.{Sky, Within, Largest, Raised, Cleared}
use Rattle.geometry.proofs.Bounds.{length_packed}
use Rattle.geometry.proofs.Standing.{column_below, highest_of_columns}
use Rattle.skyline.proofs.Skies.{largest_one}
use Rattle.table.specs.declared.blocks.Block.{Block}
use Rattle.promises.specs.Packs.{Under}
use Rattle.packer.specs.declared.spots.Visit.{Visit}
use Rattle.packer.specs.Walks.{visits, Near}
use Rattle.packer.specs.Places.{recorded, Placed, Enough}
use Rattle.packer.proofs.Laying.{resting, laid, laid_grows, packed_is}
use Rattle.packer.proofs.Standing.{StandsFor, low, visits_near}
use Rattle.packer.proofs.Records.{placement, recorded_more, recorded_long}

-- the columns have the heights that the placed blocks give them
abbrev Agree : Sky → List Rect → Type 0
Agree s ps = (c : ℕ) → c < s.columns → s.height c ≡ column ps c

-- the largest height of a span is what a block there rests on
largest_is : (s : Sky) (ps : List Rect) (a b y : ℕ) → a < b → b ≤ s.columns → Agree s ps → Largest s a b y → y ≡ highest ps a b
largest_is s ps a b y l w agree m =
    let k = highest_of_columns ps a b l in
    largest_one s a b y (highest ps a b) m (record {
      bounds = λ c f t. omega (arith, agree c (omega arith), k.bounds c f t);
      met_at = k.met_at;
      from_a = k.from_a;
      to_b = k.to_b;
      is_met = agree k.met_at (omega (arith, k.to_b)) ∙ k.is_met;
    })

-- a block that rests on the others, and the skyline raised to its top
raised_agree : (s t : Sky) (ps : List Rect) (q : Rect) → Agree s ps → q.y ≡ highest ps q.x (right_edge q) → Raised s t q.x (right_edge q) (top q) → Agree t (q ∷ ps)
raised_agree s t ps q agree rests up c l =
    let same = agree c (omega (arith, up.columns)) in
    elim (cases_lt c q.x) [
      | inl f ↦ let h = up.before c f in grind (arith, nat_tests)
      | inr f ↦ elim (cases_lt c (right_edge q)) [
        | inl u ↦ let h = up.inside c f u in let k = column_below ps q.x (right_edge q) c f u in grind (arith, nat_tests)
        | inr u ↦ let h = up.behind c u (omega (arith, up.columns)) in grind (arith, nat_tests)
      ]
    ]

-- The walk has the blocks vs ahead of it; the skyline, s at first, is t, and n records are written.
pub record Filling (n : ℕ) (p : Plan) (vs : List Visit) (s t : Sky) (before places : List Placement) (high : ℕ) : Type 0 where
  pub placed : List Rect
  pub joins : laid placed vs ≡ packed p
  pub near : All (Near n) vs
  pub columns : t.columns ≡ s.columns
  pub raises : t.raises ≡ s.raises
  pub left : t.left + length placed ≡ s.raises
  pub agree : Agree t placed
  pub records : places ≡ recorded placed n before
  pub high_is : high ≡ height placed

module _ {bs : List Block} {root : ℕ} {p : Plan} (plan : StandsFor bs root p) where
  pub fill_start : {vs : List Visit} {s t : Sky} {before places : List Placement} → vs ≡ visits p → Cleared s t → places ≡ recorded [] (length bs) before
      → Filling (length bs) p vs s t before places 0
  fill_start {vs} {s} {t} is clear blank = record {
    placed = [];
    joins = ap (laid []) is ∙ packed_is p;
    near = All-same (Near (length bs)) vs (visits p) is (visits_near plan);
    columns = clear.columns;
    raises = clear.raises;
    left = omega (arith, clear.left);
    agree = λ c l. clear.height c (omega (arith, clear.columns));
    records = blank;
    high_is = refl;
  }

  pub fill_end : {vs : List Visit} {s t : Sky} {before places : List Placement} {high : ℕ} → Filling (length bs) p vs s t before places high → vs ≡ []
      → (high ≡ height (packed p)) × (places ≡ recorded (packed p) (length bs) before) × Under p s t
  fill_end {vs} {s} {t} {before} f is =
      let all : f.placed ≡ packed p = ap (laid f.placed) (sym is) ∙ f.joins in (
        f.high_is ∙ ap height all,
        f.records ∙ ap (λ (ps : List Rect). recorded ps (length bs) before) all,
        record {
          columns = f.columns;
          raises = f.raises;
          left = omega (arith, f.left, ap length all, length_packed p);
          height = λ c l. f.agree c (omega (arith, f.columns)) ∙ ap (λ (ps : List Rect). column ps c) all;
        },
      )

  -- the walk comes to the block v
  module _ {v : Visit} {vs os : List Visit} {s t : Sky} {before places : List Placement} {high walk records : ℕ}
      (f : Filling (length bs) p os s t before places high) (is : os ≡ v ∷ vs) (enough : Enough p s walk records) where
    abbrev q : Rect
    q = resting f.placed v

    joined : laid (q ∷ f.placed) vs ≡ packed p
    joined = ap (laid f.placed) (sym is) ∙ f.joins

    near : All (Near (length bs)) (v ∷ vs)
    near = All-same (Near (length bs)) (v ∷ vs) os (sym is) f.near

    here : Near (length bs) v
    here = All-head (Near (length bs)) v vs near

    pub known : v.block < length places
    known = omega (arith, here.known, ap length f.records, recorded_long f.placed (length bs) before)

    pub within : Within t v.left (v.left + v.size.width)
    within = (omega (arith, here.some), omega (arith, laid_grows (q ∷ f.placed) vs, ap reach joined, enough.columns_wide, f.columns))

    pub some_left : 0 < t.left
    some_left = omega (arith, f.left, laid_grows (q ∷ f.placed) vs, ap length joined, length_packed p, enough.raises_many)

    rests_on : (y : ℕ) → Largest t v.left (v.left + v.size.width) y → y ≡ highest f.placed v.left (v.left + v.size.width)
    rests_on y m = largest_is t f.placed v.left (v.left + v.size.width) y within.0 within.1 f.agree m

    pub flat : (y : ℕ) → Largest t v.left (v.left + v.size.width) y → y + v.size.height ≤ 134217728
    flat y m = omega (arith, rests_on y m, laid_grows (q ∷ f.placed) vs, ap height joined, low plan)

    pub fill_turn : {t' : Sky} {r : Placement} {ns : List Visit} {high' : ℕ} → Placed t t' v r → ns ≡ vs → high' ≡ max (r.y + r.height) high
        → Filling (length bs) p ns s t' before (set places v.block r) high'
    fill_turn {t'} {r} {ns} m rest taller =
        let y_is = rests_on r.y m.rests in
        let same : r ≡ placement q = λ i. record { x = m.at_left i; y = y_is i; width = m.wide i; height = m.high i } in
        let up = subst (λ (y : ℕ). Raised t t' v.left (v.left + v.size.width) (y + v.size.height)) y_is m.raised in
        record {
          placed = q ∷ f.placed;
          joins = ap (laid (q ∷ f.placed)) rest ∙ joined;
          near = All-same (Near (length bs)) ns vs rest (All-tail (Near (length bs)) v vs near);
          columns = up.columns ∙ f.columns;
          raises = up.raises ∙ f.raises;
          left = omega (arith, up.left, f.left);
          agree = raised_agree t t' f.placed q f.agree refl up;
          records = ap (λ (w : Placement). set places v.block w) same ∙ ap (λ (rs : List Placement). set rs v.block (placement q)) f.records ∙ recorded_more f.placed (length bs) before q here.known;
          high_is = taller ∙ ap (λ (w : Placement). max (w.y + w.height) high) same ∙ ap (max (top q)) f.high_is;
        }
