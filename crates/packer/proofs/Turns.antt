-- The turns of a walk: what an entry of its stack stands for, and what is ahead when its block is taken.
use Rattle.std.proofs.Common.{◌≡◌, ℕ, suc, ◌+◌, ◌<◌, ◌≤◌, ◌≢◌, List, [], ◌∷◌, ◌++◌, length, sym, refl, ap, ◌∙◌, subst, arith, Option, Some, None}
use Rattle.std.specs.List.{All}
use Rattle.std.proofs.lemmas.List.{append_assoc, length-append, append-nil, map-append}
use Rattle.std.proofs.lemmas.List.Elements.{All-nil, All-head, All-tail, All-cons, All-same}
use Rattle.std.proofs.lemmas.Bool.{eq-eqb, ne_eqb, cond-true, cond-false}
use Rattle.rules.specs.declared.blocks.Size.{Size}
use Rattle.rules.specs.Trees.{Tree, empty, node, size}
use Rattle.rules.specs.Plans.{Plan, size_at}
use Rattle.rules.specs.Packing.{Spot as Start, spots}
use Rattle.rules.proofs.Spelling.{grow_is, to_spells, from_spells}
use Rattle.stack.specs.declared.stack.Stack.{Stack}
use Rattle.stack.specs.Stacked.{held, room, Popped}
use Rattle.table.specs.declared.blocks.Block.{Block}
use Rattle.table.specs.Tables.{at, lefts, rights}
use Rattle.table.proofs.Holding.{Sp}
use Rattle.plan.specs.Sound.{table_tree}
use Rattle.packer.specs.declared.spots.Spot.{Spot}
use Rattle.packer.specs.declared.spots.Visit.{Visit}
use Rattle.packer.specs.Walks.{put, after, sizes_of, visits_of, visits, ahead_of, Near, Stands, Underway}
use Rattle.packer.proofs.Laying.{length_visits}
use Rattle.packer.proofs.Standing.{StandsFor, size_of_row, visits_near}

size_some : (i : ℕ) (l r : Tree) → size (node i l r) ≡ suc (size l + size r)
unfolding size
size_some i l r = refl

-- a block comes before its subtrees
opened : (sizes : List Size) (k x : ℕ) (l r : Tree) (rest : List Visit) {own : Size} → size_at sizes k ≡ own
    → visits_of sizes (node k l r) x ++ rest ≡ record { block = k; left = x; size = own } ∷ (visits_of sizes l (x + own.width) ++ (visits_of sizes r x ++ rest))
opened sizes k x l r rest e =
    let f : Start → Visit = λ s. record { block = s.block; left = s.left; size = size_at sizes s.block } in
    let P : Size → Type 0 = λ own. visits_of sizes (node k l r) x ++ rest ≡ record { block = k; left = x; size = own } ∷ (visits_of sizes l (x + own.width) ++ (visits_of sizes r x ++ rest)) in
    let edge = x + (size_at sizes k).width in
    subst P e (ap (λ (vs : List Visit). f (record { block = k; left = x }) ∷ vs) (ap (λ (vs : List Visit). vs ++ rest) (map-append f (spots sizes l edge) (spots sizes r x)) ∙ append_assoc (visits_of sizes l edge) (visits_of sizes r x) rest))

-- the block of an entry
abbrev pub met : List Block → Spot → Visit
met bs e = record { block = e.block; left = e.left; size = (at bs e.block).size }

-- a link that leads to a tree goes on the stack
record Added (bs : List Block) (k x : ℕ) (es : List Spot) (t : Tree) : Type 0 where
  ahead : ahead_of bs (put k x es) ≡ visits_of (sizes_of bs) t x ++ ahead_of bs es
  stand : All (Stands bs) es → All (Stands bs) (put k x es)

added : (bs : List Block) (k x : ℕ) (es : List Spot) (t : Tree) → length bs ≤ 512 → Sp bs (length bs) k t → size t ≤ length bs → Added bs k x es t
unfolding table_tree
added bs k x es empty few s h =
    let none = cond-true _ es (record { block = k; left = x } ∷ es) (eq-eqb k 65535 s) in
    record { ahead = ap (ahead_of bs) none; stand = λ q. subst (All (Stands bs)) (sym none) q }
added bs k x es (node i l r) few s h =
    let ne : k ≢ 65535 = λ e. omega (arith, s.0, s.1) in
    let some = cond-false _ es (record { block = k; left = x } ∷ es) (ne_eqb k 65535 ne) in
    let own : table_tree bs k ≡ node i l r = grow_is (lefts bs) (rights bs) (length bs) k (length bs) (node i l r) (omega arith) h s in
    let top : Stands bs (record { block = k; left = x }) = record { known = omega (arith, s.0, s.1); spelt = from_spells _ _ _ _ _ (subst (Sp bs (length bs) k) (sym own) s) } in
    record {
      ahead = ap (ahead_of bs) some ∙ ap (λ (t : Tree). visits_of (sizes_of bs) t x ++ ahead_of bs es) own;
      stand = λ q. subst (All (Stands bs)) (sym some) (All-cons (Stands bs) (record { block = k; left = x }) es top q);
    }

-- the tree of an entry that stands has a block
one_at_least : (bs : List Block) (e : Spot) (t : Tree) → length bs ≤ 512 → e.block < length bs → Sp bs (length bs) e.block t → 0 < size t
one_at_least bs e empty few known s = absurd (omega (arith, s))
one_at_least bs e (node i l r) few known s = omega (arith, size_some i l r)

entries_fit : (bs : List Block) (es : List Spot) → length bs ≤ 512 → All (Stands bs) es → length es ≤ length (ahead_of bs es)
entries_fit bs [] few q = omega arith
entries_fit bs (e ∷ es) few q =
    let top = All-head (Stands bs) e es q in
    let own = table_tree bs e.block in
    omega (
      arith,
      entries_fit bs es few (All-tail (Stands bs) e es q),
      one_at_least bs e own few top.known (to_spells _ _ _ _ _ top.spelt),
      length-append (visits_of (sizes_of bs) own e.left) (ahead_of bs es),
      length_visits (sizes_of bs) own e.left,
    )

All-back : {X : Type 0} (P : X → Type 0) (xs ys : List X) → All P (xs ++ ys) → All P ys
All-back P [] ys h = h
All-back P (x ∷ xs) ys h = All-back P xs ys (All-tail P x (xs ++ ys) h)

-- the entry on top comes off the stack, and its block's children go on
pub record Turned (bs : List Block) (e : Spot) (es : List Spot) (room : ℕ) : Type 0 where
  pub comes : ahead_of bs (e ∷ es) ≡ met bs e ∷ ahead_of bs (after (at bs e.block) e.left es)
  pub again : Underway bs (after (at bs e.block) e.left es) room
  pub off : Underway bs es room
  pub near : Near (length bs) (met bs e)
  pub room_first : length es < room
  pub room_second : length (put (at bs e.block).children.right e.left es) < room

module _ (bs : List Block) (e : Spot) (es : List Spot) (room : ℕ) (u : Underway bs (e ∷ es) room) where
  turned_at : (t : Tree) → table_tree bs e.block ≡ t → Sp bs (length bs) e.block t → Turned bs e es room
  turned_at empty own s = absurd (omega (arith, (All-head (Stands bs) e es u.stand).known, u.few, s))
  turned_at (node i l r) own s =
      let sizes = sizes_of bs in
      let edge = e.left + (at bs e.block).size.width in
      let next = after (at bs e.block) e.left es in
      let whole = ap (λ (t : Tree). visits_of sizes t e.left ++ ahead_of bs es) own in
      let long = length-append (visits_of sizes (node i l r) e.left) (ahead_of bs es) in
      let counted = length_visits sizes (node i l r) e.left in
      let parts = size_some i l r in
      let total : length (ahead_of bs (e ∷ es)) ≡ suc (size l + size r) + length (ahead_of bs es) = omega (arith, ap length whole) in
      let small = u.small in
      let fits = u.room_ahead in
      let from_left = subst (λ (k : ℕ). Sp bs (length bs) (lefts bs k) l) (sym s.0) s.2 in
      let from_right = subst (λ (k : ℕ). Sp bs (length bs) (rights bs k) r) (sym s.0) s.3 in
      let right = added bs (rights bs e.block) e.left es r u.few from_right (omega arith) in
      let left = added bs (lefts bs e.block) edge (put (rights bs e.block) e.left es) l u.few from_left (omega arith) in
      let comes : ahead_of bs (e ∷ es) ≡ met bs e ∷ ahead_of bs next =
      ap (λ (t : Tree). visits_of sizes t e.left ++ ahead_of bs es) (own ∙ ap (λ (k : ℕ). node k l r) (sym s.0))
      ∙ opened sizes e.block e.left l r (ahead_of bs es) (size_of_row bs e.block)
      ∙ ap (λ (vs : List Visit). met bs e ∷ (visits_of sizes l edge ++ vs)) (sym right.ahead)
      ∙ ap (λ (vs : List Visit). met bs e ∷ vs) (sym left.ahead) in
      let others = All-tail (Stands bs) e es u.stand in
      let stand_right = right.stand others in
      let near = All-same (Near (length bs)) (met bs e ∷ ahead_of bs next) (ahead_of bs (e ∷ es)) (sym comes) u.near in
      let fewer : length (ahead_of bs (e ∷ es)) ≡ suc (length (ahead_of bs next)) = ap length comes in
      record {
        comes = comes;
        again = record {
          few = u.few;
          stand = left.stand stand_right;
          small = omega arith;
          room_ahead = omega arith;
          near = All-tail (Near (length bs)) (met bs e) (ahead_of bs next) near;
        };
        off = record {
          few = u.few;
          stand = others;
          small = omega arith;
          room_ahead = omega arith;
          near = All-back (Near (length bs)) (visits_of sizes (table_tree bs e.block) e.left) (ahead_of bs es) u.near;
        };
        near = All-head (Near (length bs)) (met bs e) (ahead_of bs next) near;
        room_first = omega (arith, entries_fit bs es u.few others);
        room_second = omega (arith, entries_fit bs (put (rights bs e.block) e.left es) u.few stand_right, ap length left.ahead, length-append (visits_of sizes l edge) (ahead_of bs (put (rights bs e.block) e.left es)));
      }

-- the same under other terms for the rows, the entries and the room
pub carried : {bs cs : List Block} {es os : List Spot} {m n : ℕ} → cs ≡ bs → os ≡ es → n ≡ m → Underway bs es m → Underway cs os n
carried {bs} {cs} {es} {os} {m} {n} d e f u =
    subst (λ (rows : List Block). Underway rows os n) (sym d) (subst (λ (k : ℕ). Underway bs os k) (sym f) (subst (λ (xs : List Spot). Underway bs xs m) (sym e) u))

pub turn : {bs : List Block} {e : Spot} {es os : List Spot} {room : ℕ} → os ≡ e ∷ es → Underway bs os room → Turned bs e es room
turn {bs} {e} {es} {room = room} is u =
    let v = carried refl (sym is) refl u in
    turned_at bs e es room v (table_tree bs e.block) refl (to_spells _ _ _ _ _ (All-head (Stands bs) e es v.stand).spelt)

pub taken_off : {bs : List Block} (s t : Stack Spot) (r : Option Spot) → Popped s r t → Underway bs (held s) (room s) → Underway bs (held t) (room t)
taken_off s t (Some e) p u = carried refl refl p.1 (turn p.0 u).off
taken_off {bs} s t None p u = subst (λ (x : Stack Spot). Underway bs (held x) (room x)) (sym p.1) u

-- the first entry is the root's, if there is one
module _ {bs : List Block} {root : ℕ} {p : Plan} (plan : StandsFor bs root p) where
  first : Added bs root 0 [] p.tree
  first = added bs root 0 [] p.tree plan.few plan.spelt plan.small

  pub start : ahead_of bs (put root 0 []) ≡ visits p
  start = first.ahead ∙ append-nil (visits_of (sizes_of bs) p.tree 0) ∙ ap (λ (sizes : List Size). visits_of sizes p.tree 0) (sym plan.sizes_are)

  has_root : (t : Tree) → root < 65535 → Sp bs (length bs) root t → 0 < size t
  has_root empty some s = absurd (omega (arith, s))
  has_root (node i l r) some s = omega (arith, size_some i l r)

  pub room_for_root : root < 65535 → 0 < size p.tree
  room_for_root some = has_root p.tree some plan.spelt

  pub underway : {room : ℕ} → size p.tree ≤ room → Underway bs (put root 0 []) room
  underway enough =
      let total = ap length start ∙ length_visits p.sizes p.tree 0 in
      record {
        few = plan.few;
        stand = first.stand (All-nil (Stands bs));
        small = omega (arith, total, plan.small);
        room_ahead = omega (arith, total);
        near = All-same (Near (length bs)) (ahead_of bs (put root 0 [])) (visits p) start (visits_near plan);
      }
