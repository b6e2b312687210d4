-- How a source is read, head by head.
use Rattle.std.specs.Prelude.{ℕ, zero, suc, List, [], ◌∷◌, ◌++◌, length, if◌then◌else◌, Option, Some, None, Ok, Err}
use Rattle.pli_language.specs.declared.expr.Place.{Place}
use Rattle.pli_language.specs.declared.fault.SourceFault.{SourceFault}
use Rattle.pli_language.specs.declared.fault.SourceKind.TheVariants.{LeftOut}
use Rattle.pli_language.specs.declared.token.Word.{Word}
use Rattle.pli_language.specs.declared.token.Token.{Token}
use Rattle.pli_language.specs.Heads.{Head}
use Rattle.pli_language.specs.Marks.{no_marks, fault_at}
use Rattle.pli_language.specs.Nesting.{Nest, settled, misplaced}
use Rattle.pli_language.specs.Parsing.{label_of, faults_of, syntax_at, end_of}
use Rattle.pli_language.specs.Spells.{name_at, place_of}
use Rattle.pli_language.specs.Tree.{Name, Tree}
use Rattle.pli_phrase.specs.Cursor.{Cursor, Stuck, Ended, LeavesOut, Read}
use Rattle.pli_head.specs.Reading.{head_from}
use Rattle.pli_head.specs.Continuing.{continuations}
use Rattle.pli_nest.specs.Standing.{is_stray_else, refused_place}
use Rattle.pli_nest.specs.Steps.{Entry, EnteredAs, MisplacedAt, entry, whole_tree}

-- ---- labels

abbrev pub labelled : List ℕ → Option Word → Token → List Name × List Token → List Token → List Name × List Token
labelled s None t others ts = ([], ts)
labelled s (Some word) t others ts = (name_at s t word ∷ others.0, others.1)

-- labels, as long as one more begins, and the tokens behind them
unfoldable pub labels_from : List ℕ → List Token → List Name × List Token
labels_from s [] = ([], [])
labels_from s (t ∷ []) = ([], t ∷ [])
labels_from s (t ∷ u ∷ ts) = labelled s (label_of t.kind u.kind) t (labels_from s ts) (t ∷ u ∷ ts)

abbrev pub label_with : Option Word → Token → List Token → Option (Token × Word × List Token)
label_with None t ts = None
label_with (Some word) t ts = Some (t, word, ts)

-- the name that is the first label, with its word, and the tokens behind its colon
abbrev pub label_front : List Token → Option (Token × Word × List Token)
label_front (t ∷ u ∷ ts) = label_with (label_of t.kind u.kind) t ts
label_front _ = None

-- ---- what is read from a place on

-- all that is broken, and the tree, where all is read
pub record Parsed : Type 0 where
  pub faults : List SourceFault
  pub tree : Option Tree

-- further refusals in front
abbrev pub broken_before : List SourceFault → Parsed → Parsed
broken_before fs r = record { faults = fs ++ r.faults; tree = r.tree }

-- what one head with its labels comes to: reading goes on behind it, where these refusals were met, or it is over
pub data Turn : Type 0 where
  GoesOn : (faults : List SourceFault) → (nest : Nest) → (rest : List Token) → Turn
  Over : Parsed → Turn

-- a refusal at the place where reading is stuck
abbrev pub stuck_at : Place → Parsed
stuck_at p = record { faults = syntax_at p ∷ []; tree = None }

-- nothing of the kind may stand at this place, behind these labels
abbrev pub refused_at : Nest → List Name → Place → Parsed
refused_at n ls p = stuck_at (misplaced (settled n.frames) ls p)

abbrev pub whole_with : Tree → Parsed
whole_with tree = record { faults = []; tree = Some tree }

abbrev pub ended_with : List ℕ → Option Tree → Parsed
ended_with s (Some tree) = whole_with tree
ended_with s None = stuck_at (end_of s)

-- where no token is left behind these labels
abbrev pub at_end : List ℕ → Nest → List Name → Parsed
at_end s n [] = ended_with s (whole_tree n)
at_end s n (l ∷ ls) = refused_at n (l ∷ ls) (end_of s)

-- ---- heads

-- where no head is spelled that may stand, which begins at this place with these tokens
abbrev pub broken_at : List ℕ → Nest → List Name → Place → List Token → Parsed
broken_at s n ls at ts =
    stuck_at (refused_place (settled n.frames) ls at (end_of s) (continuations s (record { tokens = ts; marks = no_marks })))

-- the place of the first of some tokens; that of the head where there is none
abbrev pub left_out_place : Place → List Token → Place
left_out_place at [] = at
left_out_place at (t ∷ ts) = place_of t

-- a head whose first tokens are ts
abbrev pub placed : Entry → List Token → Cursor → Turn
placed (EnteredAs n faults) ts c = GoesOn (faults_of ts c.tokens c.marks ++ faults) n c.tokens
placed (MisplacedAt p) ts c = Over (stuck_at p)

abbrev pub left_out_in : Place → List Token → Cursor → Parsed
left_out_in at ts c = record { faults = faults_of ts c.tokens c.marks ++ fault_at (left_out_place at c.tokens) LeftOut ∷ []; tree = None }

abbrev pub head_read : List ℕ → Nest → List Name → Place → List Token → Read Head → Turn
head_read s n ls at ts (Ok x) = if is_stray_else n ls x.0 then Over (broken_at s n ls at ts) else placed (entry n ls x.0 at) ts x.1
head_read s n ls at ts (Err Stuck) = Over (broken_at s n ls at ts)
head_read s n ls at ts (Err Ended) = Over (broken_at s n ls at ts)
head_read s n ls at ts (Err (LeavesOut c)) = Over (left_out_in at ts c)

-- behind labels
abbrev pub head_turn : List ℕ → Nest → List Name → List Token → Turn
head_turn s n ls [] = Over (at_end s n ls)
head_turn s n ls (t ∷ ts) = head_read s n ls (place_of t) (t ∷ ts) (head_from s (record { tokens = t ∷ ts; marks = no_marks }))

-- labels and the head behind them
unfoldable pub turn : List ℕ → Nest → List Token → Turn
turn s n ts = let labels = labels_from s ts in head_turn s n labels.0 labels.1

-- ---- sources

-- nothing is read; more fuel than tokens never comes to this
abbrev pub unread : Parsed
unread = record { faults = []; tree = None }

abbrev pub turned : (Nest → List Token → Parsed) → Turn → Parsed
turned further (GoesOn faults nest rest) = broken_before faults (further nest rest)
turned further (Over r) = r

-- head by head, with fuel above the number of tokens
unfoldable pub source_from : ℕ → List ℕ → Nest → List Token → Parsed
source_from zero s n ts = unread
source_from (suc fuel) s n ts = turned (λ n' rest. source_from fuel s n' rest) (turn s n ts)

-- all that is read of the tokens of a source, where this is open
abbrev pub parsed : List ℕ → Nest → List Token → Parsed
parsed s n ts = source_from (suc (length ts)) s n ts
