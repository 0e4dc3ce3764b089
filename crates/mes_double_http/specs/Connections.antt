-- Whether a connection stays open after a response (RFC 9112 section 9.3).
use Rattle.std.specs.Prelude.{ℕ, Bool, ◌&&◌, ◌==◌, List, codes, if◌then◌else◌, nat_le}
use Rattle.std.specs.List.{list_any, slice_split}
use Rattle.std.specs.Str.{str_eq_ignore_ascii_case}
use Rattle.httparse.specs.Grammar.{RequestHead, trim_ows}
use Rattle.mes_double_http.specs.Fields.{NameAndValue, pairs_of}
use Rattle.mes_double_http.specs.declared.persistence.Persistence.{Persistence}
use Rattle.mes_double_http.specs.declared.persistence.Persistence.TheVariants.{Close, Keep, KeepAlive}

abbrev pub comma : ℕ
comma = 0x2c

-- the list has the option as an item: items are separated by commas, with optional white space
-- around them (RFC 9110 section 5.6.1), and options are case-insensitive (section 7.6.1)
abbrev pub lists_option : List ℕ → List ℕ → Bool
lists_option option value = list_any (λ item. str_eq_ignore_ascii_case (trim_ows item) option) (slice_split (λ b. b == comma) value)

-- a field Connection lists the option
abbrev pub has_option : List ℕ → List NameAndValue → Bool
has_option option fields =
    list_any (λ f. str_eq_ignore_ascii_case f.0 (codes "connection") && lists_option option f.1) fields

-- what becomes of the connection, from the minor version and the fields of the request: with the
-- option close it ends; else HTTP/1.1 keeps it, and HTTP/1.0 only with the option keep-alive
abbrev pub persistence_by : ℕ → List NameAndValue → Persistence
persistence_by minor fields =
    if has_option (codes "close") fields then Close
    else (if nat_le 1 minor then Keep
    else (if has_option (codes "keep-alive") fields then KeepAlive else Close))

-- what becomes of the connection after the response to a request with this head
abbrev pub persistence : RequestHead → Persistence
persistence h = persistence_by h.minor (pairs_of h.fields)
