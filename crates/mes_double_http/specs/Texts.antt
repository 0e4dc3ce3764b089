-- The heads that are written (RFC 9112 sections 3 to 5): each line ends with CR LF, and the last
-- line is empty.
use Rattle.std.specs.Prelude.{ℕ, List, [], ◌++◌, Option, None, Some, codes, decimal}
use Rattle.http.specs.StatusCode.{reason_phrase}
use Rattle.mes_double_http.specs.declared.page_writer.PageMedia.{PageMedia}
use Rattle.mes_double_http.specs.declared.page_writer.PageMedia.TheVariants.{Html, Json}
use Rattle.mes_double_http.specs.declared.persistence.Persistence.{Persistence}
use Rattle.mes_double_http.specs.declared.persistence.Persistence.TheVariants.{Close, Keep, KeepAlive}

abbrev pub or_nothing : Option (List ℕ) → List ℕ
or_nothing None = []
or_nothing (Some text) = text

-- the usual reason phrase of a status code, or nothing
unfoldable pub phrase_text : ℕ → List ℕ
phrase_text code = or_nothing (reason_phrase code)

-- the head of a response whose body is a stream of events
abbrev pub ok_text : List ℕ → List ℕ
ok_text id =
    codes "HTTP/1.1 200 OK\r\nContent-Type: application/json\r\nTransfer-Encoding: chunked\r\nMesos-Stream-Id: " ++ id
    ++ codes "\r\n\r\n"

-- the head of a response without a body
abbrev pub status_text : ℕ → List ℕ
status_text code =
    codes "HTTP/1.1 " ++ decimal code ++ codes " " ++ phrase_text code
    ++ codes "\r\nContent-Length: 0\r\nConnection: close\r\n\r\n"

-- the head of a response without a body, after which the connection stays open; `option` is the
-- line of the field Connection, or nothing
abbrev pub kept_text : List ℕ → ℕ → List ℕ
kept_text option code =
    codes "HTTP/1.1 " ++ decimal code ++ codes " " ++ phrase_text code
    ++ codes "\r\nContent-Length: 0\r\n" ++ option ++ codes "\r\n"

-- the head of a response without a body: it says what becomes of the connection, except that
-- HTTP/1.1 keeps a connection open without saying so (RFC 9112 section 9.3)
abbrev pub response_text : Persistence → ℕ → List ℕ
response_text Close code = status_text code
response_text Keep code = kept_text [] code
response_text KeepAlive code = kept_text (codes "Connection: keep-alive\r\n") code

-- the line with the stream id, or nothing without an id
abbrev pub stream_line : Option (List ℕ) → List ℕ
stream_line None = []
stream_line (Some id) = codes "Mesos-Stream-Id: " ++ id ++ codes "\r\n"

-- the part of a request's head before the line with the stream id
unfoldable pub call_front : List ℕ → List ℕ
call_front host =
    codes "POST /api/v1/scheduler HTTP/1.1\r\nHost: " ++ host
    ++ codes "\r\nContent-Type: application/json\r\nAccept: application/json\r\n"

-- the part of a request's head after the line with the stream id
unfoldable pub call_rest : ℕ → List ℕ
call_rest size = codes "Connection: close\r\nContent-Length: " ++ decimal size ++ codes "\r\n\r\n"

-- the head of a request whose body is a call of `size` bytes
abbrev pub call_head : List ℕ → Option (List ℕ) → ℕ → List ℕ
call_head host stream size = call_front host ++ stream_line stream ++ call_rest size

-- the media type of the body (RFC 9110 section 8.3.1)
abbrev pub media_type : PageMedia → List ℕ
media_type Html = codes "text/html; charset=utf-8"
media_type Json = codes "application/json"

-- the line of the field Connection, or nothing, as in the head of a response without a body
abbrev pub connection_line : Persistence → List ℕ
connection_line Close = codes "Connection: close\r\n"
connection_line Keep = []
connection_line KeepAlive = codes "Connection: keep-alive\r\n"

-- the head of the response with a page, whose body has `size` bytes: it is not stored, not shown in a
-- frame, and only read as this media type
abbrev pub page_head : Persistence → PageMedia → ℕ → List ℕ
page_head persistence media size =
    codes "HTTP/1.1 200 OK\r\nContent-Type: " ++ media_type media
    ++ codes "\r\nContent-Length: " ++ decimal size
    ++ codes "\r\nCache-Control: no-store"
    ++ codes "\r\nContent-Security-Policy: frame-ancestors 'none'"
    ++ codes "\r\nX-Content-Type-Options: nosniff\r\n"
    ++ connection_line persistence ++ codes "\r\n"
