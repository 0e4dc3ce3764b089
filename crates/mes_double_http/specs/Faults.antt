-- The printed form of a `HeadFault`, such as `H4 Status 403`, and a master's response to it.
use Rattle.std.specs.Prelude.{List, ℕ, [], ◌++◌, codes, decimal, Option, None, Some}
use Rattle.mes_double_http.specs.declared.fault.HeadFault.{HeadFault}
use Rattle.mes_double_http.specs.declared.fault.HeadFault.TheVariants as fault

-- the number and the name of the fault
abbrev pub head_fault_title : HeadFault → List ℕ
head_fault_title fault.Read = codes "H1 Read"
head_fault_title fault.HeadTooLong = codes "H2 HeadTooLong"
head_fault_title fault.BadHead = codes "H3 BadHead"
head_fault_title (fault.Status code) = codes "H4 Status"
head_fault_title fault.NotChunked = codes "H5 NotChunked"
head_fault_title fault.NotJson = codes "H6 NotJson"
head_fault_title fault.NoStreamId = codes "H7 NoStreamId"
head_fault_title fault.WrongPath = codes "H8 WrongPath"
head_fault_title fault.WrongMethod = codes "H9 WrongMethod"
head_fault_title fault.NoLength = codes "H10 NoLength"
head_fault_title fault.BodyTooLong = codes "H11 BodyTooLong"
head_fault_title fault.ShortBody = codes "H12 ShortBody"
head_fault_title fault.NoMemory = codes "H13 NoMemory"

-- the text after the number and the name: a space and the status code for H4, else nothing
abbrev pub head_fault_details : HeadFault → List ℕ
head_fault_details (fault.Status code) = codes " " ++ decimal code
head_fault_details _ = []

abbrev pub head_fault_text : HeadFault → List ℕ
head_fault_text f = head_fault_title f ++ head_fault_details f

-- the status of the response to a request that is refused so (RFC 9110 section 15.5): 404 Not
-- Found, 405 Method Not Allowed, 400 Bad Request; none if the connection or the memory failed
abbrev pub response_status : HeadFault → Option ℕ
response_status fault.WrongPath = Some 404
response_status fault.WrongMethod = Some 405
response_status fault.Read = None
response_status fault.ShortBody = None
response_status fault.NoMemory = None
response_status _ = Some 400
