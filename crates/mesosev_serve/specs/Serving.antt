-- One served connection: the request, the response, and the printed lines.
use Rattle.std.specs.Prelude.{ℕ, List, Result}
use Rattle.std.specs.Io.KnownBytes.{Consumes}
use Rattle.mes_msg.specs.Event.{Event}
use Rattle.mes_frame.specs.Devices.{Device}
use Rattle.mes_frame.specs.declared.write.WriteFault.{WriteFault}
use Rattle.mes_double_master.specs.Masters.{MasterState}
use Rattle.mesosev_serve.specs.Asking.{IsAsked}
use Rattle.mesosev_serve.specs.Lines.{Reports, is_answered, served_lines}
use Rattle.mesosev_serve.specs.OneStream.{IsStreamReply}
use Rattle.mesosev_serve.specs.Replying.{Replies}
use Rattle.mesosev_serve.specs.Writing.{Writes}
use Rattle.mesosev_serve.specs.declared.request.ParsedRequest.{ParsedRequest}
use Rattle.mesosev_serve.specs.declared.response.Reply.{Reply}
use Rattle.mesosev_serve.specs.declared.connection.Served.{Served}
use Rattle.mesosev_serve.specs.declared.response_writer.SendError.{SendError}

-- the devices and the master's states before and after one connection; `given` are the events for a
-- stream
pub record ServesOne (before : MasterState) (given : List Event) (most : ℕ) (input rest writer written out reported : Device) (later : MasterState) (served : Result Served WriteFault) : Type 0 where
  -- a request was read, and nothing after the request
  pub taken : List ℕ
  pub consumes : Consumes input.bytes rest.bytes taken
  pub asked : ParsedRequest
  pub asks : IsAsked taken input.counts rest.counts asked
  -- the response, and the master's state after the response
  pub reply : Reply
  pub replies : Replies before given asked reply later
  -- a stream has SUBSCRIBED, then some of the given events in order, each at most once
  pub one : IsStreamReply before given reply
  pub sent : Result (Unit {0}) SendError
  pub writes : Writes most reply writer written sent
  -- the lines were printed
  pub reports : Reports (served_lines reply asked sent) (is_answered sent) out reported served
