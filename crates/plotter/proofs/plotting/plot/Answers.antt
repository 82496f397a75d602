use Rattle.std.proofs.Common.{ℕ, List, length, subst, rules}
use Rattle.heap_tree.proofs.Loading.{from_start}
use Rattle.writer.specs.Answers.{too_short, Writes}
use Rattle.plotter.proofs.Saying.{reading, refusing, ready, plotted_is, plot_tells, refused_is, refused_tells}
use Rattle.plotter.proofs.plotting.plot.Goals as goal

pub slice_bounds-plot_entries-end : goal.slice_bounds-plot_entries-end
slice_bounds-plot_entries-end c =
    let h = (reading c.args.text.now _ _ _ _ c.in-Ok.ensures.answer c.in-Ok.ensures.records).within in
    search rules

pub plot_entries-requires : goal.plot_entries-requires
plot_entries-requires c =
    let d = reading c.args.text.now _ _ _ _ c.in-Ok.ensures.answer c.in-Ok.ensures.records in
    let r = ready c.args.text.now d.told _ d.says (from_start c.in-Ok.count _ _ d.entries) (c.in-Ok.ensures.names d.told d.says) in
    record { short = r.short; few = r.few; named = r.named; sized = r.sized }

pub returns-in-Ok : goal.returns-in-Ok
returns-in-Ok c =
    let text = c.args.text.now in
    let d = reading text _ _ _ _ c.in-Ok.ensures.answer c.in-Ok.ensures.records in
    let es = from_start c.in-Ok.count _ _ d.entries in
    let all = c.in-Ok.ensures.names d.told d.says in
    record {
      writes =
          subst (λ (t : List ℕ). Writes (too_short t (length c.args.out.now)) t c.args.out.now c.plot_entries.new.out c.plot_entries.result)
          (plotted_is text d.told _ d.says es all) c.plot_entries.ensures.writes;
      tells = plot_tells text d.told _ d.says es all _ _ c.plot_entries.ensures.tells;
    }

pub returns-in-Err : goal.returns-in-Err
returns-in-Err c =
    let text = c.args.text.now in
    let says = refusing text _ c.in-Err.refusal (search rules) c.in-Err.ensures.answer in
    record {
      writes =
          subst (λ (t : List ℕ). Writes (too_short t (length c.args.out.now)) t c.args.out.now c.write_refusal.new.out c.write_refusal.result)
          (refused_is text c.in-Err.refusal says) c.write_refusal.ensures;
      tells = refused_tells text _ c.in-Err.refusal _ says;
    }
