use Rattle.std.proofs.Common.{rules}
use Rattle.skyline.proofs.worked.worked_case.Goals as goal

pub returns-clause-further : goal.returns-clause-further
returns-clause-further g c = record {
  through = (
    _,
    _,
    (
      _,
      record {
        clears = c.clear.ensures;
        raises = c.raise.ensures;
        over_edge = c.highest-over_edge.ensures;
        beside = c.highest-beside.ensures;
        too_low = c.raise-too_low.ensures;
      },
    ),
  );
  inside_kept = search rules;
  behind_kept = search rules;
  one_used = search rules;
}

pub returns-clause-worked : goal.returns-clause-worked
returns-clause-worked g c = record { columns = search rules; raises = search rules; over_edge = search rules; beside = search rules; too_low = search rules }
