use Rattle.std.proofs.Common.{ℕ, List}
use Rattle.mes_msg_call.specs.Calls.{call}
use Rattle.mes_msg.specs.Call.{Call}
use Rattle.mes_msg_record.specs.Texts.{IsTextOf}
use Rattle.mesosev_c.specs.CallTexts.{IsReportedText, IsReportedCall}
use Rattle.mesosev_c.specs.declared.calls.ReportedCall.{ReportedCall}
use Rattle.mesosev_c.specs.declared.calls.ReportedCall.TheVariants as reported
use Rattle.mesosev_c.proofs.calls.report_call.Goals as goal

call_told : (w : List ℕ) (c : Call) (t : ReportedCall) → IsTextOf call w c → IsReportedText c t → IsReportedCall w t
call_told w c (reported.Text text) is h = (c, is, h.0, h.1)
call_told w c reported.Unfit is h = (c, is, h)
call_told w c reported.Lost is h = (c, is)
call_told w c (reported.Fault fault) is h = absurd h

pub returns-in-Ok : goal.returns-in-Ok
returns-in-Ok c = call_told c.args.bytes.now c.in-Ok.call c.reported_text.result c.in-Ok.ensures.ok c.reported_text.ensures
