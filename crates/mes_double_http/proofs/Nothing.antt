-- The empty sequence of bytes has no complete head, and any head may begin so.
use Rattle.std.proofs.Common.{◌≡◌, ℕ, List, [], ◌∷◌, ◌++◌, length, codes, None, ap, ◌∙◌, arith, rules, refl, inl}
use Rattle.httparse.specs.Grammar.{lf, print_blank, print_version, print_request, RequestHead, HasNoRequest, MayBecomeRequest, print_response, ResponseHead, HasNoResponse, MayBecomeResponse}
use Rattle.httparse.specs.Ascii.{space}
use Rattle.httparse.proofs.GrammarLemmas.{print_request-append, print_response-append}
use Rattle.httparse.proofs.OnLiterals.{httparse_on_literals}
use Rattle.mes_double_http.specs.Heads.{PendsRequest, PendsResponse}

not_nothing : (a b c : List ℕ) (x : ℕ) → [] ≡ a ++ (b ++ x ∷ c) → ⊥
not_nothing [] [] c x is = absurd (omega (arith, ap length is))
not_nothing [] (y ∷ b) c x is = absurd (omega (arith, ap length is))
not_nothing (y ∷ a) b c x is = absurd (omega (arith, ap length is))

response-none : HasNoResponse []
response-none h rest (valid, is) = not_nothing (print_blank h.blank) (print_version h.minor) _ space (is ∙ print_response-append h rest)

request-none : HasNoRequest []
request-none h rest (valid, is) = not_nothing (print_blank h.blank) h.method _ space (is ∙ print_request-append h rest)

some_response : ResponseHead
unfolding httparse_on_literals
some_response = record { blank = []; minor = 1; digits = codes "200"; reason = None; line_end = lf; fields = []; last = lf }

response-begins : MayBecomeResponse []
unfolding httparse_on_literals some_response
response-begins =
    (print_response some_response, some_response, (record { minor = search rules; digits = search rules; reason = search rules; fields = search rules }, refl))

some_request : RequestHead
unfolding httparse_on_literals
some_request = record { blank = []; method = codes "GET"; target = codes "/"; minor = 1; line_end = lf; fields = []; last = lf }

request-begins : MayBecomeRequest []
unfolding httparse_on_literals some_request
request-begins = inl
    (print_request some_request, some_request, (record { method = search rules; target = search rules; target_text = search rules; minor = search rules; fields = search rules }, refl))

pub response-pends : PendsResponse []
response-pends = (response-none, response-begins, omega arith)

pub request-pends : PendsRequest []
request-pends = (request-none, request-begins, omega arith)
