-- In a legal history each leaf is as it should be.
use Rattle.std.proofs.Common.{ℕ, List}
use Rattle.sc_terms.specs.declared.problem.Parts.{Parts}
use Rattle.sc_tree.specs.declared.machine.Mark.{Mark}
use Rattle.sc_tree.specs.declared.machine.Mark.TheVariants as marks
use Rattle.sc_tree.specs.declared.machine.Entry.{Entry}
use Rattle.sc_tree.specs.Machine.{Cell, IsLegal, state_of}
use Rattle.sc_tree.specs.Trying.{IsRight, AreTried}
use Rattle.sc_tree.proofs.Comes.{all_come}
use Rattle.sc_tree.proofs.Paths.{IsSpentWell, leaves_are_well_taken}
use Rattle.sc_tree.proofs.Sound.{EndHolds, sound_is}

right_by : (problem : Parts) (budget : ℕ) (cells : List Cell) (n : ℕ) (c : Cell) (mark : Mark) → EndHolds problem cells n c.path mark → IsSpentWell problem budget c mark → IsRight problem budget cells n c.path c.steps mark
right_by problem budget cells n c marks.Open ends spent = tt
right_by problem budget cells n c (marks.Held seat) ends spent = tt
right_by problem budget cells n c (marks.Closed closing) ends spent = ends
right_by problem budget cells n c (marks.Spent cause) ends spent = spent
right_by problem budget cells n c (marks.Parted step left) ends spent = ends

pub leaves_are_tried : (problem : Parts) (budget : ℕ) (journal : List Entry) → IsLegal problem budget journal → AreTried problem budget (state_of problem journal).cells
leaves_are_tried problem budget journal legal n c is =
    let well = leaves_are_well_taken problem budget journal legal n c is in
    let sound = sound_is problem budget journal legal n c is in
    record {
      leads = well.walks;
      grows = sound.grows;
      comes = all_come problem journal n c is;
      within = well.within;
      right = right_by problem budget (state_of problem journal).cells n c c.mark sound.ends well.spent;
    }
