-- From what a packing leaves to what it shows.
use Rattle.std.proofs.Common.{◌≡◌, List, take, drop, Some, None, Ok, Option, Result, ap, ◌∙◌}
use Rattle.std.proofs.lemmas.List.{take_at}
use Rattle.std.proofs.lemmas.List.FromFn.{length-map-range_with_len}
use Rattle.rules.specs.declared.placements.Placement.{Placement}
use Rattle.rules.specs.declared.refusals.Refusal.{Refusal}
use Rattle.rules.specs.Refusals.{answered}
use Rattle.rules.specs.Plans.{Plan, block_count}
use Rattle.rules.specs.Packing.{packed}
use Rattle.rules.specs.Skylines.{Sky}
use Rattle.theorems.proofs.Following.{follows_pack_settled, follows_pack_tried}
use Rattle.promises.specs.Packs.{Packs, record_of, placements, with_placements}
use Rattle.promises.proofs.Promising.{promise_of_settled, promise_of_tried}
use Rattle.packer.specs.declared.spots.Extent.{Extent}
use Rattle.packer.specs.declared.spots.Spot.{Spot}
use Rattle.packer.specs.Gives.{extent_of, PackGives}
use Rattle.packer.specs.Shows.{PackShows}

-- what an accepted call answered
accepted : (o : Option Refusal) (v x : Extent) (r : Result Extent Refusal) → r ≡ answered o v → r ≡ Ok x → x ≡ v
accepted None v x r e f = cc
accepted (Some w) v x r e f = cc

front : (p : Plan) (before : List Placement) → take (block_count p) (with_placements p before) ≡ placements p
front p before = take_at (placements p) (drop (block_count p) before) (block_count p) (length-map-range_with_len (record_of (packed p)) 0 (block_count p))

module _ {S : Type 0} {meaning : S → Sky} {p : Plan} {before after : S} {walk_before walk_after : List Spot} {places_before places_after : List Placement} {r : Result Extent Refusal}
    (g : PackGives meaning p before after walk_before walk_after places_before places_after r) where
  packs : (x : Extent) → r ≡ Ok x → Packs p x.width x.height places_after
  packs x e =
      let v = accepted _ (extent_of p) x r g.answer e in
      record {
        records = ap (take (block_count p)) (g.records x e) ∙ front p places_before;
        width_is = ap (λ (y : Extent). y.width) v;
        height_is = ap (λ (y : Extent). y.height) v;
      }

  pub shows : PackShows p (meaning after) places_after r
  shows = record {
    settled = λ cs kept s. (follows_pack_settled p kept cs s, λ x e. promise_of_settled cs p kept x.width x.height places_after (meaning before) (meaning after) s (packs x e) (g.skyline x e));
    tried = λ cs back next kept t. (follows_pack_tried p back next kept cs t, λ x e. promise_of_tried cs p back next kept x.width x.height places_after (meaning before) (meaning after) t (packs x e) (g.skyline x e));
  }
