-- The nodes and tokens that have a text, in a tape made from a tree. Cited by private clauses only.
use Rattle.std.specs.Prelude.{ℕ, List}
use Rattle.mes_fixed.specs.Number.{IsNumber}
use Rattle.mes_json.specs.Tokens.{Token}
use Rattle.mes_json.specs.Tokens.{Token as token}
use Rattle.mes_json.specs.declared.tape.Node.{Node}
use Rattle.mes_json.specs.declared.tape.Node.TheVariants as node
use Rattle.mes_json.specs.declared.tape.spell.Form.{Form}
use Rattle.mes_json.specs.declared.tape.spell.Form.TheVariants.{Number, Text, Name}

-- the node has no text
abbrev pub HasNoText : Node → Type 0
HasNoText node.Null = Unit {0}
HasNoText (node.Bool x) = Unit {0}
HasNoText (node.Number from to) = ⊥
HasNoText (node.Text from to) = ⊥
HasNoText (node.Name from to) = ⊥
HasNoText (node.List n) = Unit {0}
HasNoText (node.Map n) = Unit {0}
HasNoText node.End = Unit {0}

-- the token of the text b in the given form: a number, a string or a name
abbrev pub text_token : Form → List ℕ → Token
text_token Number b = token.number b
text_token Text b = token.string b
text_token Name b = token.name b

-- the text b is allowed in the given form: only a number is restricted
abbrev pub IsTextOf : Form → List ℕ → Type 0
IsTextOf Number b = IsNumber b
IsTextOf Text b = Unit {0}
IsTextOf Name b = Unit {0}
