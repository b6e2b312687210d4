-- How large an expression or a statement of the typed tree is, as a program holds it, by which walks over it end.
use Rattle.std.proofs.Common.{ℕ, ◌+◌}
use Rattle.pli_typing.specs.declared.typed.Number.{Number}
use Rattle.pli_typing.specs.declared.typed.Number as N
use Rattle.pli_typing.specs.declared.typed.Numbers.{Numbers}
use Rattle.pli_typing.specs.declared.typed.Numbers as Q
use Rattle.pli_typing.specs.declared.typed.Text.{Text}
use Rattle.pli_typing.specs.declared.typed.Text as T
use Rattle.pli_typing.specs.declared.typed.Bit.{Bit}
use Rattle.pli_typing.specs.declared.typed.Bit as B
use Rattle.pli_typing.specs.declared.typed.Pointer.{Pointer}
use Rattle.pli_typing.specs.declared.typed.Pointer as P
use Rattle.pli_typing.specs.declared.typed.Offset.{Offset}
use Rattle.pli_typing.specs.declared.typed.Offset as O
use Rattle.pli_typing.specs.declared.typed.Reference.{Reference}
use Rattle.pli_typing.specs.declared.typed.Reference as R
use Rattle.pli_typing.specs.declared.typed.Argument.{Argument}
use Rattle.pli_typing.specs.declared.typed.Argument as F
use Rattle.pli_typing.specs.declared.typed.Arguments.{Arguments}
use Rattle.pli_typing.specs.declared.typed.Arguments as J
use Rattle.pli_typing.specs.declared.typed.Stored.{Stored}
use Rattle.pli_typing.specs.declared.typed.Stored as S
use Rattle.pli_typing.specs.declared.statement.Stmt.{Stmt}
use Rattle.pli_typing.specs.declared.statement.Stmt as C
use Rattle.pli_typing.specs.declared.statement.Stmts.{Stmts}
use Rattle.pli_typing.specs.declared.statement.Stmts as L

abbrev mutual
  pub number_weight : Number → ℕ
  number_weight (N.Constant n) = 1
  number_weight (N.In' a r) = reference_weight r + 1
  number_weight (N.From' c a xs) = arguments_weight xs + 1
  number_weight (N.OfText' a t) = text_weight t + 1
  number_weight (N.OfBit' a b) = bit_weight b + 1
  number_weight (N.Signed' s a n) = number_weight n + 1
  number_weight (N.Calculated' op a l b r) = number_weight l + number_weight r + 1
  number_weight (N.Absolute' a n) = number_weight n + 1
  number_weight (N.SignOf' a n) = number_weight n + 1
  number_weight (N.Extreme' w a n more) = number_weight n + numbers_weight more + 1
  number_weight (N.Modulo' a l b r) = number_weight l + number_weight r + 1
  number_weight (N.Divided' p a l b r) = number_weight l + number_weight r + 1
  number_weight (N.LengthOf' a t) = text_weight t + 1
  number_weight (N.IndexOf' a s b t) = text_weight s + text_weight t + 1
  number_weight (N.VerifyOf' a s b t) = text_weight s + text_weight t + 1
  number_weight (N.LowerBound' a r n) = reference_weight r + 1
  number_weight (N.UpperBound' a r n) = reference_weight r + 1
  number_weight (N.ElementsOf' a r n) = reference_weight r + 1
  number_weight (N.AllocationsOf v) = 1
  number_weight N.OnCode = 1

  pub numbers_weight : Numbers → ℕ
  numbers_weight Q.End = 1
  numbers_weight (Q.More' a n b ns) = number_weight n + numbers_weight ns + 1

  pub text_weight : Text → ℕ
  text_weight (T.Constant t) = 1
  text_weight (T.In' a r) = reference_weight r + 1
  text_weight (T.From' c a xs) = arguments_weight xs + 1
  text_weight (T.OfNumber' p a n) = number_weight n + 1
  text_weight (T.OfBit' a b) = bit_weight b + 1
  text_weight (T.Joined' a l b r) = text_weight l + text_weight r + 1
  text_weight (T.SubstringFrom' a t b i) = text_weight t + number_weight i + 1
  text_weight (T.Substring' a t b i c j) = text_weight t + number_weight i + number_weight j + 1

  pub bit_weight : Bit → ℕ
  bit_weight (B.Constant b) = 1
  bit_weight (B.In' a r) = reference_weight r + 1
  bit_weight (B.From' c a xs) = arguments_weight xs + 1
  bit_weight (B.OfText' a t) = text_weight t + 1
  bit_weight (B.Negated' a b) = bit_weight b + 1
  bit_weight (B.Combined' op a l b r) = bit_weight l + bit_weight r + 1
  bit_weight (B.NumbersCompared' op a l b r) = number_weight l + number_weight r + 1
  bit_weight (B.TextsCompared' op a l b r) = text_weight l + text_weight r + 1
  bit_weight (B.BitsCompared' op a l b r) = bit_weight l + bit_weight r + 1
  bit_weight (B.PointersCompared' e a l b r) = pointer_weight l + pointer_weight r + 1
  bit_weight (B.OffsetsCompared' e a l b r) = offset_weight l + offset_weight r + 1

  pub pointer_weight : Pointer → ℕ
  pointer_weight P.Null = 1
  pointer_weight (P.In' a r) = reference_weight r + 1
  pointer_weight (P.From' c a xs) = arguments_weight xs + 1
  pointer_weight (P.AddressOf' a r) = reference_weight r + 1
  pointer_weight (P.Into' a o area) = offset_weight o + 1

  pub offset_weight : Offset → ℕ
  offset_weight O.Null = 1
  offset_weight (O.In' a r) = reference_weight r + 1
  offset_weight (O.From' c a xs) = arguments_weight xs + 1
  offset_weight (O.Into' a p area) = pointer_weight p + 1

  pub reference_weight : Reference → ℕ
  reference_weight (R.Plain v p ns) = numbers_weight ns + 1
  reference_weight (R.Located' a l v p ns) = pointer_weight l + numbers_weight ns + 1

  pub argument_weight : Argument → ℕ
  argument_weight (F.ByReference r) = reference_weight r + 1
  argument_weight (F.ByCopy t s) = stored_weight s + 1
  argument_weight (F.ByOffsetInParameter p n) = pointer_weight p + 1
  argument_weight (F.ByOffsetInAutomatic p) = pointer_weight p + 1

  pub arguments_weight : Arguments → ℕ
  arguments_weight J.End = 1
  arguments_weight (J.More' a x b xs) = argument_weight x + arguments_weight xs + 1

  pub stored_weight : Stored → ℕ
  stored_weight (S.Number p n) = number_weight n + 1
  stored_weight (S.Text t) = text_weight t + 1
  stored_weight (S.Bit b) = bit_weight b + 1
  stored_weight (S.Pointer p) = pointer_weight p + 1
  stored_weight (S.Offset o) = offset_weight o + 1

abbrev mutual
  pub stmt_weight : Stmt → ℕ
  stmt_weight (C.If' b a u n) = stmt_weight u + 1
  stmt_weight (C.IfElse' b a u c o n) = stmt_weight u + stmt_weight o + 1
  stmt_weight (C.Do body n) = stmts_weight body + 1
  stmt_weight (C.DoWhile b body n) = stmts_weight body + 1
  stmt_weight (C.DoTurns t body n) = stmts_weight body + 1
  stmt_weight (C.Begin h body) = stmts_weight body + 1
  stmt_weight (C.OnUnit c h body n) = stmts_weight body + 1
  stmt_weight _ = 1

  pub stmts_weight : Stmts → ℕ
  stmts_weight (L.End labels) = 1
  stmts_weight (L.More' labels a s b rest) = stmt_weight s + stmts_weight rest + 1
