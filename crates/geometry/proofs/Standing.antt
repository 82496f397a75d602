-- No overlap, standing, columns, and which blocks are placed.
use Rattle.std.proofs.Common.{◌≡◌, ℕ, ◌+◌, ◌<◌, ◌≤◌, ◌≢◌, ◌⊎◌, List, [], ◌∷◌, sym, ap, ◌∙◌, subst, inl, inr, arith}
use Rattle.std.proofs.lemmas.List.{append-nil}
use Rattle.rules.specs.Trees.{blocks, Among, Distinct}
use Rattle.rules.specs.Packing.{Rect, right_edge, top, highest, packed, column}
use Rattle.geometry.specs.Relations.{numbers, Spans, Holds, ShareNone, Apart, Stands, EachStands, StandsOnAnother}
use Rattle.geometry.specs.Laws.{NoOverlap, NoOverlapByNumber, AllStand, AllStandByNumber, HighestOfColumns, ColumnOfTops, PackedBlocks}
use Rattle.geometry.proofs.Members.{among_map, among_turned, turned_among}
use Rattle.geometry.proofs.Once.{counted_among, among_counted}
use Rattle.geometry.proofs.Settling.{Settled, packed_settled, packed_numbers, packed_distinct, packed_from, Reached, highest_over, highest_reached}

settled_apart : (ps : List Rect) → Settled ps → Apart ps
settled_apart [] s = tt
settled_apart (p ∷ ps) s = (
  λ q m c r hp hq.
      let over = highest_over ps p.x (right_edge p) q m (record { at = c; spans = hq.across; from_a = hp.across.starts; to_b = hp.across.ends }) in
      omega (arith, s.0),
  settled_apart ps s.1,
)

pub no_overlap : NoOverlap
no_overlap p = settled_apart (packed p) (packed_settled p)

apart_by_number : (ps : List Rect) → Apart ps → (q r : Rect) → Among q ps → Among r ps → q.block ≢ r.block → ShareNone q r
apart_by_number [] a q r m n d = absurd m
apart_by_number (p ∷ ps) a q r (inl e) (inl f) d = absurd (d (ap (λ (v : Rect). v.block) (e ∙ sym f)))
apart_by_number (p ∷ ps) a q r (inl e) (inr n) d = subst (λ (v : Rect). ShareNone v r) (sym e) (a.0 r n)
apart_by_number (p ∷ ps) a q r (inr m) (inl f) d = λ c h i j. a.0 q m c h (subst (λ (v : Rect). Holds v c h) f j) i
apart_by_number (p ∷ ps) a q r (inr m) (inr n) d = apart_by_number ps a.1 q r m n d

pub no_overlap_by_number : NoOverlapByNumber
no_overlap_by_number p = apart_by_number (packed p) (no_overlap p)

settled_stand : (ps : List Rect) → Settled ps → EachStands ps
settled_stand [] s = tt
settled_stand (p ∷ ps) s = (go (highest_reached ps p.x (right_edge p)), settled_stand ps s.1)
  where
    go : Reached ps p.x (right_edge p) (highest ps p.x (right_edge p)) → Stands ps p
    go (inl z) = inl (s.0 ∙ z)
    go (inr r) =
        let k = r.2 in
        inr (r.0, r.1, record { meets = record { shared = k.at; of_first = record { starts = k.from_a; ends = k.to_b }; of_second = k.spans }; touches = s.0 ∙ r.3 })

pub all_stand : AllStand
all_stand p = settled_stand (packed p) (packed_settled p)

stands_behind : (p : Rect) (ps : List Rect) (q : Rect) → StandsOnAnother ps q → StandsOnAnother (p ∷ ps) q
stands_behind p ps q (inl z) = inl z
stands_behind p ps q (inr r) = inr (r.0, inr r.1, r.2, r.3)

stands_by_number : (ps : List Rect) → Distinct (numbers ps) → EachStands ps → (q : Rect) → Among q ps → StandsOnAnother ps q
stands_by_number [] d s q m = absurd m
stands_by_number (p ∷ ps) d s q (inl e) = subst (StandsOnAnother (p ∷ ps)) (sym e) (go s.0)
  where
    go : Stands ps p → StandsOnAnother (p ∷ ps) p
    go (inl z) = inl z
    go (inr r) =
        inr (r.0, inr r.1, (λ f. d.0 (subst (λ (i : ℕ). Among i (numbers ps)) f (among_map (λ (v : Rect). v.block) r.0 ps r.1))), r.2)
stands_by_number (p ∷ ps) d s q (inr m) = stands_behind p ps q (stands_by_number ps d.1 s.1 q m)

pub all_stand_by_number : AllStandByNumber
all_stand_by_number p w = stands_by_number (packed p) (packed_distinct p w) (all_stand p)

pub column_over : (ps : List Rect) (c : ℕ) (q : Rect) → Among q ps → Spans q c → top q ≤ column ps c
column_over ps c q m s = highest_over ps c (c + 1) q m (record { at = c; spans = s; from_a = omega arith; to_b = omega arith })

pub column_below : (ps : List Rect) (a b c : ℕ) → a ≤ c → c < b → column ps c ≤ highest ps a b
column_below ps a b c l r = elim (highest_reached ps c (c + 1)) [
  | inl z ↦ omega arith
  | inr q ↦
      let k = q.2 in
      let o = highest_over ps a b q.0 q.1 (record { at = k.at; spans = k.spans; from_a = omega arith; to_b = omega arith }) in
      omega (arith, q.3)
]

pub highest_of_columns : HighestOfColumns
highest_of_columns ps a b h = elim (highest_reached ps a b) [
  | inl z ↦ record { bounds = column_below ps a b; met_at = a; from_a = omega arith; to_b = h; is_met = omega (arith, column_below ps a b a) }
  | inr q ↦
      let k = q.2 in
      let o = column_over ps k.at q.0 q.1 k.spans in
      record {
        bounds = column_below ps a b;
        met_at = k.at;
        from_a = k.from_a;
        to_b = k.to_b;
        is_met = omega (arith, q.3, column_below ps a b k.at k.from_a k.to_b);
      }
]

pub column_of_tops : ColumnOfTops
column_of_tops ps c = record { bounds = column_over ps c; reached = go (highest_reached ps c (c + 1)) }
  where
    go : Reached ps c (c + 1) (column ps c) → (column ps c ≡ 0) ⊎ ((p : Rect) × Among p ps × Spans p c × (top p ≡ column ps c))
    go (inl z) = inl z
    go (inr q) =
        let k = q.2 in
        let e : k.at ≡ c = omega arith in
        inr (q.0, q.1, subst (Spans q.0) e k.spans, sym q.3)

pub packed_blocks : PackedBlocks
packed_blocks p = record {
  once = packed_distinct p;
  all = λ k h. subst (Among k) (sym (packed_numbers p)) (among_turned k B [] (subst (Among k) (sym (append-nil B)) (counted_among k p.tree h)));
  only = λ k m. among_counted k p.tree (subst (Among k) (append-nil B) (turned_among k B [] (subst (Among k) (packed_numbers p) m)));
  widths = λ q m. (packed_from p q m).width_is;
  heights = λ q m. (packed_from p q m).height_is;
}
  where
    B : List ℕ
    B = blocks p.tree
