-- That a source has an answer.
use Rattle.std.specs.Prelude.{ℕ, List}
use Rattle.pli_language.specs.declared.fault.SourceKind.{SourceKind}
use Rattle.pli_language.specs.declared.token.Token.{Token}
use Rattle.pli_language.specs.Tokens.{Tokens, Refuses}

-- a source has tokens, or is refused
pub data HasAnswer (s : List ℕ) : Type 0 where
  has_tokens : (ts : List Token) → Tokens s ts → HasAnswer s
  has_refusal : (line column : ℕ) (kind : SourceKind) → Refuses s line column kind → HasAnswer s
