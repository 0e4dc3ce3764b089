-- A request for a page of the test master: the rules for its head, and the bytes that begin with it.
use Rattle.std.specs.Prelude.{◌≡◌, ◌≢◌, ℕ, ◌<◌, ◌≤◌, ◌⊎◌, Bool, true, false, ◌&&◌, ◌||◌, ◌==◌, nat_le, List, [], ◌∷◌, ◌++◌, length, take, drop, codes}
use Rattle.std.specs.Char.{is_ascii_digit}
use Rattle.std.specs.List.{list_all}
use Rattle.std.specs.Option.{option_map_or}
use Rattle.std.specs.Str.{str_eq_ignore_ascii_case}
use Rattle.httparse.specs.Ascii.{colon}
use Rattle.httparse.specs.Grammar.{RequestHead}
use Rattle.mes_double_http.specs.Connections.{persistence}
use Rattle.mes_double_http.specs.Fields.{NameAndValue, pairs_of, values_named, only, is_json}
use Rattle.mes_double_http.specs.Heads.{IsRequest}
use Rattle.mes_double_http.specs.Received.{BeginsHead}
use Rattle.mes_double_http.specs.Requests.{ReportsLength}
use Rattle.mes_double_http.specs.declared.page_request.Resource.{Resource}
use Rattle.mes_double_http.specs.declared.page_request.Resource.TheVariants as resource
use Rattle.mes_double_http.specs.declared.page_request.PageRequest.{PageRequest}
use Rattle.mes_double_http.specs.declared.page_request.PageRequest.TheVariants as request
use Rattle.mes_double_http.specs.declared.page_request.FoundPage.{FoundPage}
use Rattle.mes_double_http.specs.declared.page_request.NextPage.{NextPage}
use Rattle.mes_double_http.specs.declared.page_request.NextPage.TheVariants.{Nothing, More, Whole, Refused, NoMemory}
use Rattle.mes_double_http.specs.declared.persistence.Persistence.{Persistence}
use Rattle.mes_double_http.specs.declared.limits.TheConstants.{MAX_BODY}

-- ---- the request line

abbrev pub target_of : Resource → List ℕ
target_of resource.Page = codes "/"
target_of resource.State = codes "/state"
target_of resource.Fault = codes "/fault"

abbrev pub method_of : Resource → List ℕ
method_of resource.Page = codes "GET"
method_of resource.State = codes "GET"
method_of resource.Fault = codes "POST"

-- ---- Host and Origin. If the name of another site resolves to this machine, a request from a page
-- of that site has this name in Host; if the page names this machine, Origin names the other site

-- nothing, or a colon and 1 to 5 digits (RFC 3986 section 3.2.3)
abbrev pub is_port : List ℕ → Bool
is_port [] = true
is_port (b ∷ digits) = b == colon && (nat_le 1 (length digits) && (nat_le (length digits) 5 && list_all is_ascii_digit digits))

-- the value of a Host is this host, which is case-insensitive, with or without a port
abbrev pub names_host : List ℕ → List ℕ → Bool
names_host host value = str_eq_ignore_ascii_case (take (length host) value) host && is_port (drop (length host) value)

-- the value of a Host names this machine
abbrev pub is_loopback : List ℕ → Bool
is_loopback value =
    names_host (codes "localhost") value || (names_host (codes "127.0.0.1") value || names_host (codes "[::1]") value)

-- the values of the fields Origin: none, or only the origin of the pages of this host (RFC 6454
-- section 7.1)
abbrev pub is_origin_of : List ℕ → List (List ℕ) → Bool
is_origin_of host [] = true
is_origin_of host (value ∷ []) = str_eq_ignore_ascii_case value (codes "http://" ++ host)
is_origin_of host (v ∷ w ∷ vs) = false

-- one Host, which names this machine, and no Origin or that of its own pages
abbrev pub is_local : List NameAndValue → Bool
is_local fields =
    option_map_or (λ host. is_loopback host && is_origin_of host (values_named (codes "origin") fields)) (only (values_named (codes "host") fields)) false

-- ---- the body

-- the fields announce no body: no length, or the length 0 (RFC 9112 section 6.3)
abbrev pub HasNoBody : List NameAndValue → Type 0
HasNoBody fields =
    ((values_named (codes "transfer-encoding") fields ≡ []) × (values_named (codes "content-length") fields ≡ []))
    ⊎ ReportsLength fields 0

-- the fields announce a body of n bytes, as a request for this resource has it
abbrev pub HasBody : Resource → List NameAndValue → ℕ → Type 0
HasBody resource.Page fields n = HasNoBody fields × (n ≡ 0)
HasBody resource.State fields n = HasNoBody fields × (n ≡ 0)
HasBody resource.Fault fields n = (is_json fields ≡ true) × ReportsLength fields n × (n ≤ MAX_BODY)

-- ---- the rules for the head, in the order of checking: each includes the rules before it

abbrev pub IsFor : Resource → RequestHead → Type 0
IsFor r h = h.target ≡ target_of r

abbrev pub IsPageTarget : RequestHead → Type 0
IsPageTarget h = (r : Resource) × IsFor r h

abbrev pub IsByMethod : Resource → RequestHead → Type 0
IsByMethod r h = IsFor r h × (h.method ≡ method_of r)

abbrev pub IsLocal : Resource → RequestHead → Type 0
IsLocal r h = IsByMethod r h × (is_local (pairs_of h.fields) ≡ true)

-- the head keeps all rules, and announces a body of n bytes
abbrev pub IsPageHead : RequestHead → Resource → ℕ → Type 0
IsPageHead h r n = IsLocal r h × HasBody r (pairs_of h.fields) n

-- the status is that of the response to the first rule that the head breaks (RFC 9110 section 15.5):
-- 405 Method Not Allowed, 403 Forbidden, 400 Bad Request
abbrev pub BreaksFor : Resource → ℕ → RequestHead → Type 0
BreaksFor r status h =
    ((status ≡ 405) × IsFor r h × (h.method ≢ method_of r))
    ⊎ (((status ≡ 403) × IsByMethod r h × (is_local (pairs_of h.fields) ≡ false))
    ⊎ ((status ≡ 400) × IsLocal r h × ((n : ℕ) → HasBody r (pairs_of h.fields) n → ⊥)))

abbrev pub BreaksPage : ℕ → RequestHead → Type 0
BreaksPage status h = (r : Resource) × BreaksFor r status h

-- ---- the bytes that came

-- no valid head of a request for a page begins the bytes
abbrev pub BeginsNoPage : List ℕ → Type 0
BeginsNoPage bytes = (h : RequestHead) → BeginsHead bytes h → IsPageTarget h → ⊥

-- the bytes begin with the head of a request for a page, and the status is that of its refusal
abbrev pub RefusesPage : ℕ → List ℕ → Type 0
RefusesPage status bytes = (h : RequestHead) × BeginsHead bytes h × BreaksPage status h

-- the bytes are a valid head, followed by the first bytes of its body (`part`), which has n bytes
pub record IsPageUpTo (taken : List ℕ) (r : Resource) (n : ℕ) (part : List ℕ) : Type 0 where
  pub head : RequestHead
  pub front : List ℕ
  pub split : taken ≡ front ++ part
  pub is : IsRequest front head
  pub keeps : IsPageHead head r n
  pub within : length part ≤ n

abbrev pub resource_of : PageRequest → Resource
resource_of request.Page = resource.Page
resource_of request.State = resource.State
resource_of (request.Fault body) = resource.Fault

abbrev pub body_of : PageRequest → List ℕ
body_of request.Page = []
body_of request.State = []
body_of (request.Fault body) = body.items

-- the bytes are the valid head of this request and its whole body
abbrev pub IsWholePage : List ℕ → PageRequest → Type 0
IsWholePage taken page = IsPageUpTo taken (resource_of page) (length (body_of page)) (body_of page)

-- the bytes are a valid head of a POST to /fault, and less than its whole body
abbrev pub EndsInPage : List ℕ → Type 0
EndsInPage bytes = (n : ℕ) × (part : List ℕ) × IsPageUpTo bytes resource.Fault n part × (length part < n)

-- the bytes begin with a valid head of a POST to /fault and its whole body
abbrev pub BeginsFault : List ℕ → Type 0
BeginsFault bytes =
    (taken : List ℕ) × (after : List ℕ) × (body : List ℕ) × (bytes ≡ taken ++ after) × IsPageUpTo taken resource.Fault (length body) body

-- the bytes begin with this valid head
abbrev pub IsFoundPage : List ℕ → FoundPage → Type 0
IsFoundPage bytes found =
    (h : RequestHead) × IsRequest (take found.size bytes) h × IsPageHead h found.asked.resource found.asked.length
    × (found.persistence ≡ persistence h) × (found.size ≤ length bytes)

-- the bytes before and after a search for a request for a page, and its result
abbrev pub TakesPage : List ℕ → List ℕ → NextPage → Type 0
TakesPage old new Nothing = (new ≡ old) × BeginsNoPage old
TakesPage old new More = (new ≡ old) × EndsInPage old
TakesPage old new (Whole page after) =
    (taken : List ℕ) × (old ≡ taken ++ new) × (whole : IsWholePage taken page) × (after ≡ persistence whole.head)
TakesPage old new (Refused status) = (new ≡ old) × RefusesPage status old
TakesPage old new NoMemory = (new ≡ old) × BeginsFault old

-- the request was taken, and the bytes `after` are left; or there was no memory for its body
abbrev pub GivesPage : PageRequest → Persistence → List ℕ → List ℕ → NextPage → Type 0
GivesPage expected kept after new (Whole taken p) =
    (resource_of taken ≡ resource_of expected) × (body_of taken ≡ body_of expected) × (p ≡ kept) × (new ≡ after)
GivesPage expected kept after new NoMemory = resource_of expected ≡ resource.Fault
GivesPage expected kept after new _ = ⊥
