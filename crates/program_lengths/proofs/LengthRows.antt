-- What some forms take beside their tokens, worked out by hand.
use Rattle.std.proofs.Common.{◌≡◌, ℕ, List, [], ◌∷◌, map, None, Some, refl}
use Rattle.pli_language.specs.declared.token.Word.TheVariants as W
use Rattle.pli_language.specs.declared.expr.Place.{Place}
use Rattle.pli_language.specs.Tree as T
use Rattle.pli_typing.specs.TypedTree as Y
use Rattle.program_lengths.specs.Declares.{declaring_tokens}
use Rattle.program_lengths.specs.StatementLengths.{stmt_beside, get_item_beside, put_item_beside}
use Rattle.program_lengths.specs.DeclaredLengths.{declare_beside}

abbrev line : ℕ
line = 1

abbrev variable : Y.StorageClass → Y.Variable
variable class = record { class = class; block = 1; level = 0; index = 0 }

abbrev reference : Y.Variable → Y.Locator → Y.Numbers → Y.Reference
reference v l subscripts = Y.Referring v l (record { first = 0; count = 1 }) subscripts

-- I, and X that is BASED(P)
abbrev own : Y.Reference
own = reference (variable Y.AutomaticClass) Y.NotLocated Y.NoNumber

abbrev located : Y.Reference
located = reference (variable Y.BasedClass) (Y.LocatedBy (Y.PointerIn own)) Y.NoNumber

-- A(X), and A(X + X)
abbrev number : Y.Number
number = Y.NumberIn located

abbrev element : Y.Number → Y.Reference
element n = reference (variable Y.AutomaticClass) Y.NotLocated (Y.NumberThen n Y.NoNumber)

abbrev count : Y.Reference → Y.Stmt
count r =
    Y.DoCount (Y.NumberCounter 31 r) (Y.NumberValue 31 (Y.NumberConstant 1)) None (Y.NumberConstant 1) None
    (Y.EndOfList []) line

-- DO I = 1 BY 1, DO X = 1 BY 1, DO A(X) = 1 BY 1, DO A(X + X) = 1 BY 1: 62, 140, 242 and 416 words, stored, tested and
-- stepped
counters :
    map stmt_beside (count own ∷ count located ∷ count (element number)
    ∷ count (element (Y.Calculated Y.Sum number number)) ∷ [])
    ≡ (0 ∷ 0 ∷ 150 ∷ 498 ∷ [])
counters = refl

-- an array in GET and PUT, and one behind a locator
aggregates :
    (get_item_beside (Y.GetAggregate own) ∷ get_item_beside (Y.GetAggregate located)
    ∷ put_item_beside (Y.PutAggregate own) ∷ put_item_beside (Y.PutAggregate located) ∷ [])
    ≡ (51 ∷ 129 ∷ 0 ∷ 64 ∷ [])
aggregates = refl

-- ---- declarations

abbrev place : Place
place = record { line = 1; column = 1 }

abbrev name : List ℕ → T.Name
name letters = record { letters = letters; word = W.Other; place = place }

-- CHAR(N), and CHAR(5)
abbrev size : T.Expr → T.Attribute
size e = T.Character (Some (T.Given (record { value = e; refer = None })))

abbrev names : List T.DeclaredName
names = record { name = name (65 ∷ []); dimensions = [] } ∷ record { name = name (66 ∷ []); dimensions = [] }
    ∷ record { name = name (67 ∷ []); dimensions = [] } ∷ []

abbrev item : List T.DeclaredName → T.Expr → T.DeclareItem
item ds e = record { level = None; names = ds; dimensions = []; attributes = size e ∷ [] }

abbrev amount : T.Expr
amount = T.Refers (T.Plain (T.Last (name (78 ∷ [])) T.Absent))

abbrev controlled : List T.DeclaredName → T.Expr → T.DeclareItem
controlled ds e = record { level = None; names = ds; dimensions = []; attributes = size e ∷ T.Controlled ∷ [] }

-- DCL (A, B, C) CHAR(N), where each name has 186 words: an AUTOMATIC one pays 145 of them, and what is behind them the
-- rest; for CONTROLLED ones these five tokens pay 520; DCL A CHAR(N) CONTROLLED
shared :
    map declare_beside ((item names amount ∷ []) ∷ (controlled names amount ∷ [])
    ∷ (controlled (record { name = name (65 ∷ []); dimensions = [] } ∷ []) amount ∷ []) ∷ [])
    ≡ (0 ∷ 38 ∷ 0 ∷ [])
shared = refl

-- seven in parentheses, CHAR, three for N, and two for DCL and the semicolon
tokens : declaring_tokens (item names amount ∷ []) ≡ 13
tokens = refl
