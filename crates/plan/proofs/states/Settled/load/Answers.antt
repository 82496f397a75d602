use Rattle.std.proofs.Common.{length, refl, sym, ◌∙◌, rules}
use Rattle.loading.specs.Told.{given}
use Rattle.loading.proofs.Accepting.{accepted_tree}
use Rattle.loading.proofs.Refusing.{answered_ok, answered_err}
use Rattle.plan.proofs.Loading.{after_load}
use Rattle.plan.proofs.Loads.{refused, made}
use Rattle.plan.proofs.states.Settled.load.Goals as goal

pub returns-in_err-load_refusal : goal.returns-in_err-load_refusal
returns-in_err-load_refusal c =
    let is = answered_err _ _ c.in_err-load_refusal.field-0.0 (sym c.load_refusal.ensures.answer ∙ c.in_err-load_refusal.was) in
    refused (given c.args.lists (length c.args.walk.now)) c.args.self.now _ _ c.in_err-load_refusal.field-0.0 _ is (search rules) c.load_refusal.ensures.walk

pub fill-requires : goal.fill-requires
fill-requires c =
    let passed = answered_ok _ _ (sym c.load_refusal.ensures.answer ∙ c.in_ok-load_refusal.was) in
    let a = accepted_tree (given c.args.lists (length c.args.walk.now)) passed in
    record { few = a.few; letters = a.letters_long; children = a.children_long }

pub invariant_of-self : goal.invariant_of-self
invariant_of-self c =
    let passed = answered_ok _ _ (sym c.load_refusal.ensures.answer ∙ c.in_ok-load_refusal.was) in
    let d = after_load (given c.args.lists (length c.args.walk.now)) _ _ passed c.fill.ensures.items c.fill.ensures.root in
    record { sound = d.sound; fit = d.fit }

pub returns : goal.returns
returns c =
    let g = given c.args.lists (length c.args.walk.now) in
    let passed = answered_ok _ _ (sym c.load_refusal.ensures.answer ∙ c.in_ok-load_refusal.was) in
    let d = after_load g _ _ passed c.fill.ensures.items c.fill.ensures.root in
    made g c.args.self.now _ _ _ _ passed refl d.plan refl c.load_refusal.ensures.walk
