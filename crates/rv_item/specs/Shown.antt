-- Values to and from an address, by what their kinds have in common.
use Rattle.std.specs.Prelude.{ℕ, ◌++◌}
use Rattle.pli_language.specs.Tree.{Formats}
use Rattle.pli_typing.specs.TypedTree as Y
use Rattle.pli_coding.specs.Registers.{a0}
use Rattle.pli_coding.specs.Assembly.{Code}
use Rattle.pli_coding.specs.Environments.{Taken, save}
use Rattle.pli_coding.specs.Arithmetic.{fitted_code}
use Rattle.pli_coding.specs.Locating.{Address, loaded, text_pushed}
use Rattle.pli_coding.specs.Streams.{as_text, number_got, number_put, text_put}

unfoldable pub word_shown : Taken → Formats → Y.LeafType → Address → (precision : ℕ) → Code
word_shown t formats type a precision = loaded type a0 a ++ (save a0 t ++ number_put t formats (as_text precision))

unfoldable pub text_shown : Formats → Y.LeafType → Address → Code
text_shown formats type a = text_pushed type a ++ text_put formats

unfoldable pub number_converted : Taken → Formats → (precision : ℕ) → Code
number_converted t formats precision = number_got formats ++ fitted_code t precision
