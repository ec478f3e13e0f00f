use Rattle.text.specs.PageLaws.{puts_then}
use Rattle.case_report.specs.StateLines.{state_text}
use Rattle.case_report.proofs.state_lines.put_state.Goals as goal

pub returns : goal.returns
unfolding state_text
returns c = puts_then _ _ _ _ _ c.say_kept.ensures
    (puts_then _ _ _ _ _ c.say_kept-2.ensures
    (puts_then _ _ _ _ _ c.say_kept-3.ensures
    (puts_then _ _ _ _ _ c.say_kept-4.ensures
    c.put_waiting.ensures)))
