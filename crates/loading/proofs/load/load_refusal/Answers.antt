use Rattle.std.proofs.Common.{◌≡◌, length, Err, ◌∙◌, rules}
use Rattle.loading.specs.Told.{given}
use Rattle.loading.proofs.Refusing.{from_room, from_blocks, from_tree}
use Rattle.loading.proofs.Accepting.{told}
use Rattle.loading.proofs.load.load_refusal.Goals as goal

pub returns-in_err-room_refusal-clause-answer : goal.returns-in_err-room_refusal-clause-answer
returns-in_err-room_refusal-clause-answer c =
    let r = c.in_err-room_refusal.field-0.0 in
    let e : c.from_residual.result ≡ Err r = search rules in
    e ∙ from_room (given c.args.lists (length c.args.walk.now)) r (search rules)

pub returns-in_err-block_refusal-clause-answer : goal.returns-in_err-block_refusal-clause-answer
returns-in_err-block_refusal-clause-answer c =
    let r = c.in_err-block_refusal.field-0.0 in
    let e : c.from_residual-in_err-block_refusal.result ≡ Err r = search rules in
    e ∙ from_blocks (given c.args.lists (length c.args.walk.now)) r (search rules) (search rules)

pub returns-clause-answer : goal.returns-clause-answer
returns-clause-answer c = from_tree (given c.args.lists (length c.args.walk.now)) _ (search rules) (search rules) c.tree_refusal.ensures

pub returns-clause-told : goal.returns-clause-told
returns-clause-told c = told (given c.args.lists (length c.args.walk.now)) _ (returns-clause-answer c)
