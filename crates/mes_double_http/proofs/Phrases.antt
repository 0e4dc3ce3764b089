-- The reason phrase of each status code fits the capacity for the head of a response.
use Rattle.std.proofs.Common.{◌≡◌, ℕ, ◌==◌, ◌≤◌, List, length, Bool, true, false, Option, Some, codes, if◌then◌else◌, nat_le, arith, refl}
use Rattle.std.proofs.lemmas.Bool.Decides.{nat_tests}
use Rattle.mes_double_http.specs.Texts.{phrase_text, or_nothing}

short : (text : List ℕ) → nat_le (length text) 40 ≡ true → length text ≤ 40
short text few = grind (arith, nat_tests)

short-if : (b : Bool) (text : List ℕ) (rest : Option (List ℕ)) → length text ≤ 40 → length (or_nothing rest) ≤ 40
    → length (or_nothing (if b then Some text else rest)) ≤ 40
short-if true text rest few more = few
short-if false text rest few more = more

pub phrase_short : (code : ℕ) → length (phrase_text code) ≤ 40
unfolding phrase_text
phrase_short code =
    short-if (code == 100) _ _ (short (codes "Continue") refl) (
    short-if (code == 101) _ _ (short (codes "Switching Protocols") refl) (
    short-if (code == 102) _ _ (short (codes "Processing") refl) (
    short-if (code == 103) _ _ (short (codes "Early Hints") refl) (
    short-if (code == 200) _ _ (short (codes "OK") refl) (
    short-if (code == 201) _ _ (short (codes "Created") refl) (
    short-if (code == 202) _ _ (short (codes "Accepted") refl) (
    short-if (code == 203) _ _ (short (codes "Non Authoritative Information") refl) (
    short-if (code == 204) _ _ (short (codes "No Content") refl) (
    short-if (code == 205) _ _ (short (codes "Reset Content") refl) (
    short-if (code == 206) _ _ (short (codes "Partial Content") refl) (
    short-if (code == 207) _ _ (short (codes "Multi-Status") refl) (
    short-if (code == 208) _ _ (short (codes "Already Reported") refl) (
    short-if (code == 226) _ _ (short (codes "IM Used") refl) (
    short-if (code == 300) _ _ (short (codes "Multiple Choices") refl) (
    short-if (code == 301) _ _ (short (codes "Moved Permanently") refl) (
    short-if (code == 302) _ _ (short (codes "Found") refl) (
    short-if (code == 303) _ _ (short (codes "See Other") refl) (
    short-if (code == 304) _ _ (short (codes "Not Modified") refl) (
    short-if (code == 305) _ _ (short (codes "Use Proxy") refl) (
    short-if (code == 307) _ _ (short (codes "Temporary Redirect") refl) (
    short-if (code == 308) _ _ (short (codes "Permanent Redirect") refl) (
    short-if (code == 400) _ _ (short (codes "Bad Request") refl) (
    short-if (code == 401) _ _ (short (codes "Unauthorized") refl) (
    short-if (code == 402) _ _ (short (codes "Payment Required") refl) (
    short-if (code == 403) _ _ (short (codes "Forbidden") refl) (
    short-if (code == 404) _ _ (short (codes "Not Found") refl) (
    short-if (code == 405) _ _ (short (codes "Method Not Allowed") refl) (
    short-if (code == 406) _ _ (short (codes "Not Acceptable") refl) (
    short-if (code == 407) _ _ (short (codes "Proxy Authentication Required") refl) (
    short-if (code == 408) _ _ (short (codes "Request Timeout") refl) (
    short-if (code == 409) _ _ (short (codes "Conflict") refl) (
    short-if (code == 410) _ _ (short (codes "Gone") refl) (
    short-if (code == 411) _ _ (short (codes "Length Required") refl) (
    short-if (code == 412) _ _ (short (codes "Precondition Failed") refl) (
    short-if (code == 413) _ _ (short (codes "Payload Too Large") refl) (
    short-if (code == 414) _ _ (short (codes "URI Too Long") refl) (
    short-if (code == 415) _ _ (short (codes "Unsupported Media Type") refl) (
    short-if (code == 416) _ _ (short (codes "Range Not Satisfiable") refl) (
    short-if (code == 417) _ _ (short (codes "Expectation Failed") refl) (
    short-if (code == 418) _ _ (short (codes "I'm a teapot") refl) (
    short-if (code == 421) _ _ (short (codes "Misdirected Request") refl) (
    short-if (code == 422) _ _ (short (codes "Unprocessable Entity") refl) (
    short-if (code == 423) _ _ (short (codes "Locked") refl) (
    short-if (code == 424) _ _ (short (codes "Failed Dependency") refl) (
    short-if (code == 425) _ _ (short (codes "Too Early") refl) (
    short-if (code == 426) _ _ (short (codes "Upgrade Required") refl) (
    short-if (code == 428) _ _ (short (codes "Precondition Required") refl) (
    short-if (code == 429) _ _ (short (codes "Too Many Requests") refl) (
    short-if (code == 431) _ _ (short (codes "Request Header Fields Too Large") refl) (
    short-if (code == 451) _ _ (short (codes "Unavailable For Legal Reasons") refl) (
    short-if (code == 500) _ _ (short (codes "Internal Server Error") refl) (
    short-if (code == 501) _ _ (short (codes "Not Implemented") refl) (
    short-if (code == 502) _ _ (short (codes "Bad Gateway") refl) (
    short-if (code == 503) _ _ (short (codes "Service Unavailable") refl) (
    short-if (code == 504) _ _ (short (codes "Gateway Timeout") refl) (
    short-if (code == 505) _ _ (short (codes "HTTP Version Not Supported") refl) (
    short-if (code == 506) _ _ (short (codes "Variant Also Negotiates") refl) (
    short-if (code == 507) _ _ (short (codes "Insufficient Storage") refl) (
    short-if (code == 508) _ _ (short (codes "Loop Detected") refl) (
    short-if (code == 510) _ _ (short (codes "Not Extended") refl) (
    short-if (code == 511) _ _ (short (codes "Network Authentication Required") refl) (
    omega arith))))))))))))))))))))))))))))))))))))))))))))))))))))))))))))))
