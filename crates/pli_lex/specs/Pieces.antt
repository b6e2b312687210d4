-- What stands at the front of bytes that aren't at their end.
use Rattle.std.specs.Prelude.{◌≡◌, ◌≢◌, ℕ, ◌<◌, ◌≤◌, List, length, take, slice_index, false, None}
use Rattle.pli_language.specs.declared.fault.SourceKind.{SourceKind}
use Rattle.pli_language.specs.declared.token.Kind.{Kind}
use Rattle.pli_language.specs.Tokens.{is_blank, is_digit, is_name_start, opens_comment, quote, IsSeparation, Read, IsLongest, IsShort, Breaks}
use Rattle.pli_lex.specs.Symbols.{pair}
use Rattle.pli_lex.specs.declared.piece.Piece.{Piece}
use Rattle.pli_lex.specs.declared.piece.Piece.TheVariants as P

pub record IsSeparatorAt (s : List ℕ) (n : ℕ) : Type 0 where
  pub some : 0 < n
  pub inside : n ≤ length s
  pub separates : IsSeparation (take n s)

pub record IsTokenOf (s : List ℕ) (kind : Kind) (n : ℕ) : Type 0 where
  pub some : 0 < n
  pub inside : n ≤ length s
  pub longest : IsLongest s n (Read kind)
  pub short : IsShort kind (take n s)

-- whatever stands before
pub record IsRefusedAt (s : List ℕ) (kind : SourceKind) : Type 0 where
  pub breaks : (read : ℕ) → Breaks s read kind

abbrev pub IsPiece : List ℕ → Piece → Type 0
IsPiece s (P.Separator n) = IsSeparatorAt s n
IsPiece s (P.Token kind n) = IsTokenOf s kind n
IsPiece s (P.Refused kind) = IsRefusedAt s kind

-- no blank, comment, name, number or text begins here
pub record BeginsOther (s : List ℕ) : Type 0 where
  pub some : 0 < length s
  pub no_blank : is_blank (slice_index s 0) ≡ false
  pub no_comment : opens_comment s ≡ false
  pub no_name : is_name_start (slice_index s 0) ≡ false
  pub no_digit : is_digit (slice_index s 0) ≡ false
  pub no_quote : slice_index s 0 ≢ quote

-- no `**` and no symbol of two bytes begins here
pub record BeginsNoPair (s : List ℕ) : Type 0 where
  pub no_power : 1 < length s → slice_index s 0 ≡ 42 → slice_index s 1 ≡ 42 → ⊥
  pub no_symbol : 1 < length s → pair (slice_index s 0) (slice_index s 1) ≡ None
