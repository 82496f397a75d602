-- What the program prints of an answer.
use Rattle.std.specs.Prelude.{ℕ, Bool, true, false, List, ◌++◌, codes, decimal}
use Rattle.rules.specs.Letters.{letter_name}
use Rattle.rules.specs.Refusals.{refusal_text}
use Rattle.plan.specs.declared.reports.Report.{Report}
use Rattle.session.specs.declared.answers.Answer.{Answer}
use Rattle.session.specs.declared.answers.Answer.TheVariants.{Loaded, Allowed, Begun, BegunEmpty, Kept, Undone, Reported, Skyline, Highest, Packed, At}
use Rattle.session.specs.declared.answers.Denial.{Denial}
use Rattle.session.specs.declared.answers.Denial.TheVariants.{Refused, NotAllowed}

-- whether a block keeps its letter
abbrev pub kept_name : Bool → List ℕ
kept_name true = codes "kept"
kept_name false = codes "broken"

-- block W H L R X kept, or broken
abbrev pub report_text : Report → List ℕ
report_text r =
    codes "block " ++ (decimal r.size.width ++ (codes " " ++ (decimal r.size.height ++ (codes " " ++
    (decimal r.children.left ++ (codes " " ++ (decimal r.children.right ++ (codes " " ++
    (letter_name r.letter ++ (codes " " ++ kept_name r.kept))))))))))

-- the line of an answer, without its end
abbrev pub answer_text : Answer → List ℕ
answer_text (Loaded n) = codes "loaded " ++ decimal n
answer_text Allowed = codes "allowed"
answer_text Begun = codes "begun"
answer_text BegunEmpty = codes "begun empty"
answer_text (Kept n) = codes "kept " ++ decimal n
answer_text (Undone n) = codes "undone " ++ decimal n
answer_text (Reported r) = report_text r
answer_text (Skyline c all left) = codes "skyline " ++ (decimal c ++ (codes " " ++ (decimal all ++ (codes " " ++ decimal left))))
answer_text (Highest h) = codes "highest " ++ decimal h
answer_text (Packed e) = codes "packed " ++ (decimal e.width ++ (codes " " ++ decimal e.height))
answer_text (At i p) =
    codes "at " ++ (decimal i ++ (codes " " ++ (decimal p.x ++ (codes " " ++ (decimal p.y ++ (codes " " ++
    (decimal p.width ++ (codes " " ++ decimal p.height))))))))

-- the line of a call that has no answer
abbrev pub denial_text : Denial → List ℕ
denial_text (Refused r) = refusal_text r
denial_text NotAllowed = codes "not allowed"
