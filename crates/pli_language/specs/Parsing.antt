-- Which tokens spell which program, and the refusals of those that spell none: a source is read head by head, as long as
-- heads are spelled and may stand where they stand.
use Rattle.std.specs.Prelude.{◌≡◌, ◌≢◌, ◌⊎◌, ℕ, ◌-◌, List, [], ◌∷◌, ◌++◌, length, take, Option, Some, None}
use Rattle.pli_language.specs.declared.expr.Place.{Place}
use Rattle.pli_language.specs.declared.fault.SourceFault.{SourceFault}
use Rattle.pli_language.specs.declared.fault.SourceKind.TheVariants.{Syntax, LeftOut}
use Rattle.pli_language.specs.declared.token.Word.{Word}
use Rattle.pli_language.specs.declared.token.Symbol.TheVariants as S
use Rattle.pli_language.specs.declared.token.Kind.{Kind}
use Rattle.pli_language.specs.declared.token.Kind.TheVariants as K
use Rattle.pli_language.specs.declared.token.Token.{Token}
use Rattle.pli_language.specs.Heads.{Head, Else, SpellsHead, LeavesOut}
use Rattle.pli_language.specs.Marks.{Marks, no_marks, fault_at, parentheses_marks}
use Rattle.pli_language.specs.Nesting.{Nest, outermost, entered, settled, misplaced, nest_faults, items_of_list}
use Rattle.pli_language.specs.Refusals.{IsLeast}
use Rattle.pli_language.specs.Spells.{name_at, place_of}
use Rattle.pli_language.specs.Tokens.{line_after, column_after}
use Rattle.pli_language.specs.Tree.{Name, Tree}

abbrev pub label_of : Kind → Kind → Option Word
label_of (K.Name word) (K.Symbol S.Colon) = Some word
label_of _ _ = None

-- a name with a colon behind it
abbrev pub label_ahead : List Token → Option Word
label_ahead (t ∷ u ∷ ts) = label_of t.kind u.kind
label_ahead _ = None

-- labels, as long as one more begins
pub data SpellsLabels (s : List ℕ) : List Token → List Name → List Token → Type 0 where
  no_label : (ts : List Token) → label_ahead ts ≡ None → SpellsLabels s ts [] ts
  label : (ts after rest : List Token) (t u : Token) (word : Word) (ls : List Name) → ts ≡ t ∷ u ∷ after → label_ahead ts ≡ Some word → SpellsLabels s after ls rest → SpellsLabels s ts (name_at s t word ∷ ls) rest

-- the tokens before the rest
abbrev pub before : List Token → List Token → List Token
before ts rest = take (length ts - length rest) ts

-- all that the tokens up to the rest break, which came to these marks
abbrev pub faults_of : List Token → List Token → Marks → List SourceFault
faults_of ts rest m = (parentheses_marks 0 (before ts rest) m).faults

abbrev pub syntax_at : Place → SourceFault
syntax_at p = fault_at p Syntax

-- the place behind the last byte
abbrev pub end_of : List ℕ → Place
end_of s = record { line = line_after s; column = column_after s }

-- some tokens from here on spell a head
abbrev pub BeginsHead : List ℕ → List Token → Type 0
BeginsHead s ts = (h : Head) × (rest : List Token) × (m : Marks) × SpellsHead s ts no_marks h rest m

abbrev pub BeginsLeftOut : List ℕ → List Token → Type 0
BeginsLeftOut s ts = (rest : List Token) × (m : Marks) × LeavesOut s ts no_marks rest m

-- with some tokens behind these, which go on to the end of the source, a head would begin here that may stand where a nest is open, behind
-- these labels
abbrev pub MayGoOn : List ℕ → Nest → List Name → List Token → Type 0
MayGoOn s n ls ts =
    (more : List Token) × (h : Head) × (rest : List Token) × (m : Marks) × (SpellsHead s (ts ++ more) no_marks h rest m × entered n ls h ≢ None)

-- where a head is refused that begins with a token: behind the last byte where the source ends inside it, else at that token
abbrev pub IsRefusedAt : List ℕ → Nest → List Name → Token → List Token → Place → Type 0
IsRefusedAt s n ls t mid p =
    (MayGoOn s n ls (t ∷ mid) × (p ≡ end_of s)) ⊎ ((¬ MayGoOn s n ls (t ∷ mid)) × (p ≡ place_of t))

-- where a head that is spelled may not stand: at its first token; but ELSE may go on, as a variable of that name
abbrev pub IsMisplacedAt : List ℕ → Nest → List Name → Head → Token → List Token → Place → Type 0
IsMisplacedAt s n ls (Else q) t mid p = IsRefusedAt s n ls t mid p
IsMisplacedAt s n ls h t mid p = p ≡ place_of t

-- What is read from a place on, where a nest is open: all that the heads break that are read, and the head behind them;
-- and the tree, where all is read. A source ends too early, or a head may not stand where it stands, or no head is spelled;
-- but a form that is left out is told as such.
pub data Reads (s : List ℕ) : Nest → List Token → List SourceFault → Option Tree → Type 0 where
  all_read : (n : Nest) → n.frames ≡ [] → Reads s n [] [] (Some (record { procedures = items_of_list n.outer }))
  too_early : (n : Nest) (ts : List Token) (ls : List Name) → SpellsLabels s ts ls [] → (n.frames ≢ []) ⊎ (ls ≢ []) → Reads s n ts (syntax_at (misplaced (settled n.frames) ls (end_of s)) ∷ []) None
  head : (n n' : Nest) (ts mid rest : List Token) (ls : List Name) (h : Head) (m : Marks) (fs : List SourceFault) (tree : Option Tree) → SpellsLabels s ts ls mid → SpellsHead s mid no_marks h rest m → entered n ls h ≡ Some n' → Reads s n' rest fs tree → Reads s n ts (faults_of mid rest m ++ (nest_faults (settled n.frames) h ++ fs)) tree
  misplaced_head : (n : Nest) (ts mid rest : List Token) (ls : List Name) (h : Head) (m : Marks) (t : Token) (p : Place) → SpellsLabels s ts ls (t ∷ mid) → SpellsHead s (t ∷ mid) no_marks h rest m → entered n ls h ≡ None → IsMisplacedAt s n ls h t mid p → Reads s n ts (syntax_at (misplaced (settled n.frames) ls p) ∷ []) None
  left_out : (n : Nest) (ts mid rest : List Token) (ls : List Name) (m : Marks) (t : Token) → SpellsLabels s ts ls mid → LeavesOut s mid no_marks (t ∷ rest) m → Reads s n ts (faults_of mid (t ∷ rest) m ++ fault_at (place_of t) LeftOut ∷ []) None
  no_head : (n : Nest) (ts mid : List Token) (ls : List Name) (t : Token) (p : Place) → SpellsLabels s ts ls (t ∷ mid) → ¬ BeginsHead s (t ∷ mid) → ¬ BeginsLeftOut s (t ∷ mid) → IsRefusedAt s n ls t mid p → Reads s n ts (syntax_at (misplaced (settled n.frames) ls p) ∷ []) None

-- the tokens of a source spell a tree, and break no rule
abbrev pub Spells : List ℕ → List Token → Tree → Type 0
Spells s ts tree = Reads s outermost ts [] (Some tree)

-- the tokens of a source break rules, of which this is the least
pub record RefusesTokens (s : List ℕ) (ts : List Token) (f : SourceFault) : Type 0 where
  pub faults : List SourceFault
  pub tree : Option Tree
  pub read : Reads s outermost ts faults tree
  pub least : IsLeast faults f
