-- How far a statement can be read.
use Rattle.std.specs.Prelude.{ℕ, Bool, true, false, ◌&&◌, ◌==◌, List, [], ◌∷◌, ◌++◌, Option, Some, None, Ok, Err}
use Rattle.std.specs.Prelude.{if◌then◌else◌}
use Rattle.pli_language.specs.declared.expr.Place.{Place}
use Rattle.pli_language.specs.declared.fault.SourceFault.{SourceFault}
use Rattle.pli_language.specs.declared.fault.SourceKind.TheVariants.{Syntax}
use Rattle.pli_language.specs.declared.fault.SourceKind.{SourceKind}
use Rattle.pli_language.specs.declared.token.Token.{Token}
use Rattle.pli_language.specs.Heads.{Head}
use Rattle.pli_language.specs.Marks.{no_marks}
use Rattle.pli_language.specs.Spells.{place_of}
use Rattle.pli_phrase.specs.Cursor.{Cursor, Read, Ended, Stuck, LeavesOut}
use Rattle.pli_phrase.specs.Reading.{assignment_begins}
use Rattle.pli_phrase.specs.declared.expression.Beginning.{Beginning}
use Rattle.pli_phrase.specs.declared.expression.Beginning.TheVariants.{Begins, Differs, Unknown}
use Rattle.pli_head.specs.Reading.{head_from}

abbrev pub may_go_on : Read Head → Bool
may_go_on (Ok x) = true
may_go_on (Err Ended) = true
may_go_on (Err Stuck) = false
may_go_on (Err (LeavesOut c)) = false

abbrev pub goes_on_from : List ℕ → Cursor → Beginning → Bool
goes_on_from s c Unknown = true
goes_on_from s c Begins = may_go_on (head_from s c)
goes_on_from s c Differs = may_go_on (head_from s c)

-- some head has these first tokens: one is read, the tokens end in one, or they end in the target of an assignment
abbrev pub goes_on : List ℕ → List Token → Bool
goes_on s ts =
    let c : Cursor = record { tokens = ts; marks = no_marks } in
    goes_on_from s c (assignment_begins s c)

-- the first token that can't stand behind those before it
abbrev pub unread : List ℕ → List Token → List Token → Option Place
unread s before [] = None
unread s before (t ∷ ts) = if goes_on s (before ++ t ∷ []) then unread s (before ++ t ∷ []) ts else Some (place_of t)

abbrev pub tokens_from : ℕ → ℕ → List Token → List Token
tokens_from line column [] = []
tokens_from line column (t ∷ ts) =
    if (t.line == line) && (t.column == column) then t ∷ ts else tokens_from line column ts

abbrev pub if_syntax : SourceKind → Option Place → Option Place
if_syntax Syntax place = place
if_syntax _ place = None

-- of what is refused as a statement that isn't spelled
abbrev pub farthest : List ℕ → List Token → SourceFault → Option Place
farthest s ts f = if_syntax f.kind (unread s [] (tokens_from f.line f.column ts))
