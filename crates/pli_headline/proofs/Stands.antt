-- Where the labels of statements stand, and the ends of their on-units, in order.
use Rattle.std.proofs.Common.{◌≡◌, ℕ, List, [], ◌∷◌, ◌++◌, map, Option, None, Some, Bool, true, false, refl, sym, ap, ◌∙◌}
use Rattle.std.specs.Prelude.{◌==◌}
use Rattle.std.proofs.lemmas.Bool.{eqb-true}
use Rattle.pli_typing.specs.TypedTree as Y
use Rattle.pli_meaning.specs.Control.{Label}
use Rattle.pli_meaning.specs.Executing.{labels_in}
use Rattle.pli_coding.specs.Environments.{BlockPlace}
use Rattle.pli_headline.specs.ProvedSoFar.{OuterBlock, of_block, inner_labels, all_labels, JumpsAround, AllJumpAround, is_number, CallsAmong, AllCallAmong, IsUnitApart, IsUnitNew}
use Rattle.pli_headline.proofs.InnerFrames.{other_level}

-- a label of a block, or the end of one
abbrev pub Stand : Type 0
Stand = ℕ × Option Label

abbrev pub stands_of : (block : ℕ) → List Label → List Stand
stands_of block labels = map (λ l. (block, Some l)) labels

-- a unit that is a single statement has no end of its own
abbrev pub end_of : Y.BlockHead → Y.BlockKind → List Stand
end_of head Y.SimpleUnit = []
end_of head _ = (head.number, None) ∷ []

abbrev mutual
  pub inner_stands : (block : ℕ) → Y.Stmt → List Stand
  inner_stands block (Y.If condition unit line) = inner_stands block unit
  inner_stands block (Y.IfElse condition unit otherwise line) = inner_stands block unit ++ inner_stands block otherwise
  inner_stands block (Y.Do body line) = all_stands block body
  inner_stands block (Y.DoWhile condition body line) = all_stands block body
  inner_stands block (Y.DoOnce target start condition body line) = all_stands block body
  inner_stands block (Y.DoCount counter start limit step condition body line) = all_stands block body
  inner_stands block (Y.Begin (Y.BlockOf head body)) = all_stands head.number body
  inner_stands block (Y.OnUnit condition (Y.BlockOf head body) line) = all_stands head.number body ++ end_of head head.kind
  inner_stands block _ = []

  pub all_stands : (block : ℕ) → Y.Stmts → List Stand
  all_stands block (Y.EndOfList labels) = stands_of block labels
  all_stands block (Y.StmtThen labels first rest) = stands_of block labels ++ (inner_stands block first ++ all_stands block rest)

-- ---- the labels among them

abbrev pub labels_among : List Stand → List (ℕ × Label)
labels_among [] = []
labels_among ((n, Some l) ∷ ps) = (n, l) ∷ labels_among ps
labels_among ((n, None) ∷ ps) = labels_among ps

labels_append : (ps qs : List Stand) → labels_among (ps ++ qs) ≡ labels_among ps ++ labels_among qs
labels_append [] qs = refl
labels_append ((n, Some l) ∷ ps) qs = ap (λ ls. (n, l) ∷ ls) (labels_append ps qs)
labels_append ((n, None) ∷ ps) qs = labels_append ps qs

own_labels : (block : ℕ) (labels : List Label) → labels_among (stands_of block labels) ≡ of_block block labels
own_labels block [] = refl
own_labels block (l ∷ ls) = ap (λ ps. (block, l) ∷ ps) (own_labels block ls)

no_label : (head : Y.BlockHead) (kind : Y.BlockKind) → labels_among (end_of head kind) ≡ []
no_label head Y.SimpleUnit = refl
no_label head Y.UnitBlock = refl
no_label head Y.ProcedureBlock = refl
no_label head Y.BeginBlock = refl

append_none : (ps qs : List (ℕ × Label)) → qs ≡ [] → ps ++ qs ≡ ps
append_none [] qs none = none
append_none (p ∷ ps) qs none = ap (λ ls. p ∷ ls) (append_none ps qs none)

mutual
  inner_are : (block : ℕ) (x : Y.Stmt) → labels_among (inner_stands block x) ≡ inner_labels block x
  inner_are block (Y.If condition unit line) = inner_are block unit
  inner_are block (Y.IfElse condition unit otherwise line) =
      labels_append (inner_stands block unit) (inner_stands block otherwise)
      ∙ ap (λ ls. ls ++ labels_among (inner_stands block otherwise)) (inner_are block unit)
      ∙ ap (λ ls. inner_labels block unit ++ ls) (inner_are block otherwise)
  inner_are block (Y.Do body line) = labels_are block body
  inner_are block (Y.DoWhile condition body line) = labels_are block body
  inner_are block (Y.DoOnce target start condition body line) = labels_are block body
  inner_are block (Y.DoCount counter start limit step condition body line) = labels_are block body
  inner_are block (Y.Begin (Y.BlockOf head body)) = labels_are head.number body
  inner_are block (Y.OnUnit condition (Y.BlockOf head body) line) =
      labels_append (all_stands head.number body) (end_of head head.kind)
      ∙ append_none (labels_among (all_stands head.number body)) (labels_among (end_of head head.kind)) (no_label head head.kind)
      ∙ labels_are head.number body
  inner_are block _ = refl

  pub labels_are : (block : ℕ) (body : Y.Stmts) → labels_among (all_stands block body) ≡ all_labels block body
  labels_are block (Y.EndOfList labels) = own_labels block labels
  labels_are block (Y.StmtThen labels first rest) =
      labels_append (stands_of block labels) (inner_stands block first ++ all_stands block rest)
      ∙ ap (λ ls. ls ++ labels_among (inner_stands block first ++ all_stands block rest)) (own_labels block labels)
      ∙ ap (λ ls. of_block block labels ++ ls)
      (labels_append (inner_stands block first) (all_stands block rest)
      ∙ ap (λ ls. ls ++ labels_among (all_stands block rest)) (inner_are block first)
      ∙ ap (λ ls. inner_labels block first ++ ls) (labels_are block rest))

-- ---- the ends among them

-- none is that of a number
abbrev pub EndsApart : (number : ℕ) → List Stand → Type 0
EndsApart number [] = Unit {0}
EndsApart number ((n, Some l) ∷ ps) = EndsApart number ps
EndsApart number ((n, None) ∷ ps) = ((number == n) ≡ false) × EndsApart number ps

apart_append : (number : ℕ) (ps qs : List Stand) → EndsApart number ps → EndsApart number qs → EndsApart number (ps ++ qs)
apart_append number [] qs h more = more
apart_append number ((n, Some l) ∷ ps) qs h more = apart_append number ps qs h more
apart_append number ((n, None) ∷ ps) qs h more = (h.0, apart_append number ps qs h.1 more)

own_apart : (number block : ℕ) (labels : List Label) → EndsApart number (stands_of block labels)
own_apart number block [] = tt
own_apart number block (l ∷ ls) = own_apart number block ls

-- the numbers of units that are blocks are others
abbrev mutual
  UnitsApart : (number : ℕ) → Y.Stmt → Type 0
  UnitsApart number (Y.If condition unit line) = UnitsApart number unit
  UnitsApart number (Y.IfElse condition unit otherwise line) = UnitsApart number unit × UnitsApart number otherwise
  UnitsApart number (Y.Do body line) = AllUnitsApart number body
  UnitsApart number (Y.DoWhile condition body line) = AllUnitsApart number body
  UnitsApart number (Y.DoOnce target start condition body line) = AllUnitsApart number body
  UnitsApart number (Y.DoCount counter start limit step condition body line) = AllUnitsApart number body
  UnitsApart number (Y.Begin (Y.BlockOf head body)) = AllUnitsApart number body
  UnitsApart number (Y.OnUnit condition (Y.BlockOf head body) line) = IsUnitApart number head head.kind × AllUnitsApart number body
  UnitsApart number _ = Unit {0}

  pub AllUnitsApart : (number : ℕ) → Y.Stmts → Type 0
  AllUnitsApart number (Y.EndOfList labels) = Unit {0}
  AllUnitsApart number (Y.StmtThen labels first rest) = UnitsApart number first × AllUnitsApart number rest

end_apart : (number : ℕ) (head : Y.BlockHead) (kind : Y.BlockKind) → IsUnitApart number head kind → EndsApart number (end_of head kind)
end_apart number head Y.SimpleUnit h = tt
end_apart number head Y.UnitBlock h = (h, tt)
end_apart number head Y.ProcedureBlock h = (h, tt)
end_apart number head Y.BeginBlock h = (h, tt)

mutual
  inner_apart : (number block : ℕ) (x : Y.Stmt) → UnitsApart number x → EndsApart number (inner_stands block x)
  inner_apart number block (Y.If condition unit line) h = inner_apart number block unit h
  inner_apart number block (Y.IfElse condition unit otherwise line) h =
      apart_append number (inner_stands block unit) (inner_stands block otherwise) (inner_apart number block unit h.0) (inner_apart number block otherwise h.1)
  inner_apart number block (Y.Do body line) h = ends_apart number block body h
  inner_apart number block (Y.DoWhile condition body line) h = ends_apart number block body h
  inner_apart number block (Y.DoOnce target start condition body line) h = ends_apart number block body h
  inner_apart number block (Y.DoCount counter start limit step condition body line) h = ends_apart number block body h
  inner_apart number block (Y.Begin (Y.BlockOf head body)) h = ends_apart number head.number body h
  inner_apart number block (Y.OnUnit condition (Y.BlockOf head body) line) h =
      apart_append number (all_stands head.number body) (end_of head head.kind) (ends_apart number head.number body h.1) (end_apart number head head.kind h.0)
  inner_apart number block _ h = tt

  pub ends_apart : (number block : ℕ) (body : Y.Stmts) → AllUnitsApart number body → EndsApart number (all_stands block body)
  ends_apart number block (Y.EndOfList labels) h = own_apart number block labels
  ends_apart number block (Y.StmtThen labels first rest) h =
      apart_append number (stands_of block labels) (inner_stands block first ++ all_stands block rest) (own_apart number block labels)
      (apart_append number (inner_stands block first) (all_stands block rest) (inner_apart number block first h.0) (ends_apart number block rest h.1))

-- blocks inside the main procedure have no units
mutual
  no_unit : (number block level : ℕ) (all : List (ℕ × Label)) (blocks : List BlockPlace) (main : OuterBlock) (outer : List OuterBlock) (around : List Label) (x : Y.Stmt) → (0 == level) ≡ false → JumpsAround block level all blocks main outer around x → UnitsApart number x
  no_unit number block level all blocks main outer around (Y.If condition unit line) deep jumps = no_unit number block level all blocks main outer around unit deep jumps
  no_unit number block level all blocks main outer around (Y.IfElse condition unit otherwise line) deep jumps = (
    no_unit number block level all blocks main outer around unit deep jumps.0,
    no_unit number block level all blocks main outer around otherwise deep jumps.1,
  )
  no_unit number block level all blocks main outer around (Y.Do body line) deep jumps = no_units number block level all blocks main outer (labels_in body ++ around) body deep jumps
  no_unit number block level all blocks main outer around (Y.DoWhile condition body line) deep jumps = no_units number block level all blocks main outer (labels_in body ++ around) body deep jumps
  no_unit number block level all blocks main outer around (Y.DoOnce target start condition body line) deep jumps = no_units number block level all blocks main outer (labels_in body ++ around) body deep jumps
  no_unit number block level all blocks main outer around (Y.DoCount counter start limit step condition body line) deep jumps = no_units number block level all blocks main outer (labels_in body ++ around) body deep jumps
  no_unit number block level all blocks main outer around (Y.Begin (Y.BlockOf head body)) deep jumps =
      no_units number head.number head.level all blocks main (record { level = level; number = block; labels = around } ∷ outer) (labels_in body) body (other_level head.level level jumps.0.0) jumps.1
  no_unit number block level all blocks main outer around (Y.OnUnit condition (Y.BlockOf head body) line) deep jumps =
      let no : true ≡ false = sym jumps.0 ∙ deep in absurd (cc no)
  no_unit number block level all blocks main outer around _ deep jumps = tt

  pub no_units : (number block level : ℕ) (all : List (ℕ × Label)) (blocks : List BlockPlace) (main : OuterBlock) (outer : List OuterBlock) (around : List Label) (body : Y.Stmts) → (0 == level) ≡ false → AllJumpAround block level all blocks main outer around body → AllUnitsApart number body
  no_units number block level all blocks main outer around (Y.EndOfList labels) deep jumps = tt
  no_units number block level all blocks main outer around (Y.StmtThen labels first rest) deep jumps = (
    no_unit number block level all blocks main outer around first deep jumps.0,
    no_units number block level all blocks main outer around rest deep jumps.1,
  )

-- they are in the main procedure other than its own, by its jumps
mutual
  own_unit : (block level : ℕ) (all : List (ℕ × Label)) (blocks : List BlockPlace) (main : OuterBlock) (outer : List OuterBlock) (around : List Label) (x : Y.Stmt) → JumpsAround block level all blocks main outer around x → UnitsApart block x
  own_unit block level all blocks main outer around (Y.If condition unit line) jumps = own_unit block level all blocks main outer around unit jumps
  own_unit block level all blocks main outer around (Y.IfElse condition unit otherwise line) jumps = (
    own_unit block level all blocks main outer around unit jumps.0,
    own_unit block level all blocks main outer around otherwise jumps.1,
  )
  own_unit block level all blocks main outer around (Y.Do body line) jumps = own_units block level all blocks main outer (labels_in body ++ around) body jumps
  own_unit block level all blocks main outer around (Y.DoWhile condition body line) jumps = own_units block level all blocks main outer (labels_in body ++ around) body jumps
  own_unit block level all blocks main outer around (Y.DoOnce target start condition body line) jumps = own_units block level all blocks main outer (labels_in body ++ around) body jumps
  own_unit block level all blocks main outer around (Y.DoCount counter start limit step condition body line) jumps = own_units block level all blocks main outer (labels_in body ++ around) body jumps
  own_unit block level all blocks main outer around (Y.Begin (Y.BlockOf head body)) jumps =
      no_units block head.number head.level all blocks main (record { level = level; number = block; labels = around } ∷ outer) (labels_in body) body (other_level head.level level jumps.0.0) jumps.1
  own_unit block level all blocks main outer around (Y.OnUnit condition (Y.BlockOf head body) line) jumps = (
    jumps.1.1.0,
    no_units block head.number head.level all blocks main (main ∷ []) (labels_in body) body (other_level head.level 0 jumps.1.0) jumps.1.1.1,
  )
  own_unit block level all blocks main outer around _ jumps = tt

  pub own_units : (block level : ℕ) (all : List (ℕ × Label)) (blocks : List BlockPlace) (main : OuterBlock) (outer : List OuterBlock) (around : List Label) (body : Y.Stmts) → AllJumpAround block level all blocks main outer around body → AllUnitsApart block body
  own_units block level all blocks main outer around (Y.EndOfList labels) jumps = tt
  own_units block level all blocks main outer around (Y.StmtThen labels first rest) jumps = (
    own_unit block level all blocks main outer around first jumps.0,
    own_units block level all blocks main outer around rest jumps.1,
  )

-- and other than those of the procedures that are called
new_by : (q : Bool) (number n : ℕ) (may : List ℕ) → (number == n) ≡ q → is_number number may ≡ true → is_number n may ≡ false → (number == n) ≡ false
new_by false number n may e among none = e
new_by true number n may e among none =
    let no : true ≡ false = sym among ∙ ap (λ m. is_number m may) (eqb-true number n e) ∙ none in absurd (cc no)

apart_of : (number : ℕ) (may : List ℕ) (head : Y.BlockHead) (kind : Y.BlockKind) → is_number number may ≡ true → IsUnitNew may head kind → IsUnitApart number head kind
apart_of number may head Y.SimpleUnit among new = tt
apart_of number may head Y.UnitBlock among new = new_by (number == head.number) number head.number may refl among new
apart_of number may head Y.ProcedureBlock among new = new_by (number == head.number) number head.number may refl among new
apart_of number may head Y.BeginBlock among new = new_by (number == head.number) number head.number may refl among new

mutual
  called_unit : (program : Y.Program) (number block level : ℕ) (all : List (ℕ × Label)) (blocks : List BlockPlace) (main : OuterBlock) (outer : List OuterBlock) (around : List Label) (may : List ℕ) (returns : Bool) (bytes : ℕ) (x : Y.Stmt) → is_number number may ≡ true → JumpsAround block level all blocks main outer around x → CallsAmong program may returns bytes x → UnitsApart number x
  called_unit program number block level all blocks main outer around may returns bytes (Y.If condition unit line) among jumps calls = called_unit program number block level all blocks main outer around may returns bytes unit among jumps calls
  called_unit program number block level all blocks main outer around may returns bytes (Y.IfElse condition unit otherwise line) among jumps calls = (
    called_unit program number block level all blocks main outer around may returns bytes unit among jumps.0 calls.0,
    called_unit program number block level all blocks main outer around may returns bytes otherwise among jumps.1 calls.1,
  )
  called_unit program number block level all blocks main outer around may returns bytes (Y.Do body line) among jumps calls = called_units program number block level all blocks main outer (labels_in body ++ around) may returns bytes body among jumps calls
  called_unit program number block level all blocks main outer around may returns bytes (Y.DoWhile condition body line) among jumps calls = called_units program number block level all blocks main outer (labels_in body ++ around) may returns bytes body among jumps calls
  called_unit program number block level all blocks main outer around may returns bytes (Y.DoOnce target start condition body line) among jumps calls = called_units program number block level all blocks main outer (labels_in body ++ around) may returns bytes body among jumps calls
  called_unit program number block level all blocks main outer around may returns bytes (Y.DoCount counter start limit step condition body line) among jumps calls = called_units program number block level all blocks main outer (labels_in body ++ around) may returns bytes body among jumps calls
  called_unit program number block level all blocks main outer around may returns bytes (Y.Begin (Y.BlockOf head body)) among jumps calls =
      no_units number head.number head.level all blocks main (record { level = level; number = block; labels = around } ∷ outer) (labels_in body) body (other_level head.level level jumps.0.0) jumps.1
  called_unit program number block level all blocks main outer around may returns bytes (Y.OnUnit condition (Y.BlockOf head body) line) among jumps calls = (
    apart_of number may head head.kind among calls.1.1,
    called_units program number head.number head.level all blocks main (main ∷ []) (labels_in body) may false 0 body among jumps.1.1.1 calls.0,
  )
  called_unit program number block level all blocks main outer around may returns bytes _ among jumps calls = tt

  pub called_units : (program : Y.Program) (number block level : ℕ) (all : List (ℕ × Label)) (blocks : List BlockPlace) (main : OuterBlock) (outer : List OuterBlock) (around : List Label) (may : List ℕ) (returns : Bool) (bytes : ℕ) (body : Y.Stmts) → is_number number may ≡ true → AllJumpAround block level all blocks main outer around body → AllCallAmong program may returns bytes body → AllUnitsApart number body
  called_units program number block level all blocks main outer around may returns bytes (Y.EndOfList labels) among jumps calls = tt
  called_units program number block level all blocks main outer around may returns bytes (Y.StmtThen labels first rest) among jumps calls = (
    called_unit program number block level all blocks main outer around may returns bytes first among jumps.0 calls.0,
    called_units program number block level all blocks main outer around may returns bytes rest among jumps.1 calls.1,
  )
