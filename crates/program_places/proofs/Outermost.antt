-- The block around at level 0 is the main procedure's: no other block has that level.
use Rattle.std.proofs.Common.{◌≡◌, ℕ, ◌≤◌, inl, inr, List, [], ◌∷◌, ◌++◌, Bool, true, false, refl}
use Rattle.std.proofs.Common.{sym, ap, ◌∙◌, subst, arith}
use Rattle.std.specs.Prelude.{cond, nat_le, nat_lt, ◌==◌, ◌&&◌}
use Rattle.std.proofs.lemmas.Bool.{and_parts, eqb-true}
use Rattle.std.proofs.lemmas.Bool.Decides.{nat_tests}
use Rattle.pli_typing.specs.TypedTree as Y
use Rattle.pli_meaning.specs.DeclaredShapes.{head_of}
use Rattle.pli_coding.specs.Environments.{BlockPlace, Environment, block_around, last_of_level}
use Rattle.pli_coding.specs.Images.{blocks_among, blocks_in, blocks_of, blocks_of_procedure, place_of_head}
use Rattle.pli_coding.specs.Images.{place_of_unit, with_block, with_blocks}
use Rattle.well_formed_trees.specs.Every.{Every}
use Rattle.well_formed_trees.specs.Statements.{IsInside, SoundStmt, SoundStmts}
use Rattle.well_formed_trees.specs.Surroundings.{Table, Where}
use Rattle.well_formed_trees.specs.WellFormed.{HasMain, IsInner, IsWellFormed, SoundProcedure}
use Rattle.program_places.specs.Programs.{IsMain, Main}
use Rattle.program_places.proofs.Blocks.{IsAmong, found_among}
use Rattle.program_places.proofs.Starts.{main_found}

-- ---- each of a list of blocks

every_append :
    (P : BlockPlace → Type 0) (xs ys : List BlockPlace) → Every P xs → Every P ys → Every P (xs ++ ys)
every_append P [] ys h k = k
every_append P (x ∷ xs) ys h k = (h.0, every_append P xs ys h.1 k)

new_by :
    (P : BlockPlace → Type 0) (q : Bool) (b c : BlockPlace) (cs rest : List BlockPlace) → P b → Every P (c ∷ cs) →
    Every P rest → Every P (cond q (b ∷ c ∷ cs) (c ∷ rest))
new_by P true b c cs rest h all more = (h, all)
new_by P false b c cs rest h all more = (all.0, more)

every_new : (P : BlockPlace → Type 0) (b : BlockPlace) (all : List BlockPlace) → P b → Every P all →
    Every P (with_block b all)
every_new P b [] h all = (h, tt)
every_new P b (c ∷ cs) h all =
    new_by P (nat_lt b.number c.number) b c cs (with_block b cs) h all (every_new P b cs h all.1)

every_with :
    (P : BlockPlace → Type 0) (bs all : List BlockPlace) → Every P bs → Every P all → Every P (with_blocks bs all)
every_with P [] all h k = k
every_with P (b ∷ bs) all h k = every_with P bs (with_block b all) h.1 (every_new P b all h.0 k)

-- ---- levels

-- at level 0 it has this number
abbrev IsOuter : ℕ → BlockPlace → Type 0
IsOuter n b = b.level ≡ 0 → b.number ≡ n

inside_outer : (n : ℕ) (w : Where) (head : Y.BlockHead) → IsInside w head → IsOuter n (place_of_head head)
inside_outer n w head h none = let level = h.level in absurd (omega (arith, level, none))

unit_outer :
    (n : ℕ) (w : Where) (head : Y.BlockHead) (kind : Y.BlockKind) → IsInside w head →
    Every (IsOuter n) (place_of_unit head kind)
unit_outer n w head Y.SimpleUnit h = tt
unit_outer n w head Y.ProcedureBlock h = (inside_outer n w head h, tt)
unit_outer n w head Y.BeginBlock h = (inside_outer n w head h, tt)
unit_outer n w head Y.UnitBlock h = (inside_outer n w head h, tt)

mutual
  outer_in : (n : ℕ) (w : Where) (s : Y.Stmt) → SoundStmt w s → Every (IsOuter n) (blocks_in s)
  outer_in n w (Y.If condition unit line) h = outer_in n w unit h.1.0
  outer_in n w (Y.IfElse condition unit otherwise line) h =
      every_append (IsOuter n) (blocks_in unit) (blocks_in otherwise) (outer_in n w unit h.1.0)
      (outer_in n w otherwise h.1.1.0)
  outer_in n w (Y.Do body line) h = outer_among n _ body h.0
  outer_in n w (Y.DoWhile condition body line) h = outer_among n _ body h.1.0
  outer_in n w (Y.DoOnce variable start condition body line) h = outer_among n _ body h.1.1.0
  outer_in n w (Y.DoCount counter start limit step condition body line) h = outer_among n _ body h.1.1.0
  outer_in n w (Y.Begin (Y.BlockOf head body)) h = (inside_outer n w head h.0.1.0, outer_among n _ body h.1)
  outer_in n w (Y.OnUnit c (Y.BlockOf head body) line) h =
      every_append (IsOuter n) (place_of_unit head head.kind) (blocks_among body)
      (unit_outer n w head head.kind h.0.1.0) (outer_among n _ body h.1.0)
  outer_in n w (Y.Null line) h = tt
  outer_in n w (Y.Assign target source line) h = tt
  outer_in n w (Y.AssignElements target source line) h = tt
  outer_in n w (Y.AssignAggregate target source line) h = tt
  outer_in n w (Y.AssignArea target source line) h = tt
  outer_in n w (Y.EmptyArea target line) h = tt
  outer_in n w (Y.OnSystem condition line) h = tt
  outer_in n w (Y.CallProcedure c line) h = tt
  outer_in n w (Y.Return line) h = tt
  outer_in n w (Y.ReturnValue type source line) h = tt
  outer_in n w (Y.Goto level label line) h = tt
  outer_in n w (Y.Stop line) h = tt
  outer_in n w (Y.Signal condition line) h = tt
  outer_in n w (Y.Revert condition line) h = tt
  outer_in n w (Y.Allocate allocations line) h = tt
  outer_in n w (Y.Free freeings line) h = tt
  outer_in n w (Y.Get skip pairs line) h = tt
  outer_in n w (Y.Put skip pairs line) h = tt

  outer_among : (n : ℕ) (w : Where) (body : Y.Stmts) → SoundStmts w body → Every (IsOuter n) (blocks_among body)
  outer_among n w (Y.EndOfList labels) h = tt
  outer_among n w (Y.StmtThen labels first rest) h =
      every_append (IsOuter n) (blocks_in first) (blocks_among rest) (outer_in n w first h.0)
      (outer_among n w rest h.1)

-- the blocks of a procedure
sound_outer :
    (n : ℕ) (table : Table) (program : Y.Program) (p : Y.Procedure) → SoundProcedure table program p →
    IsOuter n (place_of_head (head_of p.block)) → Every (IsOuter n) (blocks_of_procedure p.block)
sound_outer n table program p h own =
    subst (λ b. IsOuter n (place_of_head (head_of b)) → Every (IsOuter n) (blocks_of_procedure b)) (sym h.is)
    (λ own'. (own', outer_among n _ h.body h.statements)) own

all_outer :
    (n : ℕ) (table : Table) (program : Y.Program) (ps : List Y.Procedure) → Every (SoundProcedure table program) ps →
    Every (λ p. IsOuter n (place_of_head (head_of p.block))) ps → Every (IsOuter n) (blocks_of ps)
all_outer n table program [] h own = tt
all_outer n table program (p ∷ ps) h own =
    every_with (IsOuter n) (blocks_of_procedure p.block) (blocks_of ps) (sound_outer n table program p h.0 own.0)
    (all_outer n table program ps h.1 own.1)

inner_outer :
    (n : ℕ) (ps : List Y.Procedure) → Every IsInner ps → Every (λ p. IsOuter n (place_of_head (head_of p.block))) ps
inner_outer n [] h = tt
inner_outer n (p ∷ ps) h =
    (λ none. let inner = h.0 in absurd (omega (arith, inner, none)), inner_outer n ps h.1)

-- ---- the last one of level 0

chosen : (q : Bool) (there here n : ℕ) → (q ≡ true → there ≡ n) → here ≡ n → cond q there here ≡ n
chosen true there here n yes' no' = yes' refl
chosen false there here n yes' no' = no'

last_kept :
    (n number found : ℕ) (bs : List BlockPlace) → Every (IsOuter n) bs → found ≡ n →
    last_of_level number 0 found bs ≡ n
last_kept n number found [] h f = f
last_kept n number found (b ∷ bs) h f =
    chosen (nat_le b.number number && (b.level == 0)) (last_of_level number 0 b.number bs)
    (last_of_level number 0 found bs) n
    (λ e.
    last_kept n number b.number bs h.1
    (h.0 (eqb-true b.level 0 (and_parts (nat_le b.number number) (b.level == 0) e).1)))
    (last_kept n number found bs h.1 f)

abbrev outer_place : ℕ → BlockPlace
outer_place n = record { number = n; level = 0 }

last_outer :
    (n number found : ℕ) (bs : List BlockPlace) → Every (IsOuter n) bs → n ≤ number → IsAmong (outer_place n) bs →
    last_of_level number 0 found bs ≡ n
last_outer n number found [] h below among = absurd among
last_outer n number found (c ∷ cs) h below (inl e) =
    let here : nat_le n number ≡ true = grind (arith, nat_tests) in
    subst (λ (x : BlockPlace). last_of_level number 0 found (x ∷ cs) ≡ n) e
    (ap (λ q. cond (q && (0 == 0)) (last_of_level number 0 n cs) (last_of_level number 0 found cs)) here
    ∙ last_kept n number n cs h.1 refl)
last_outer n number found (c ∷ cs) h below (inr among) =
    chosen (nat_le c.number number && (c.level == 0)) (last_of_level number 0 c.number cs)
    (last_of_level number 0 found cs) n (λ e. last_outer n number c.number cs h.1 below among)
    (last_outer n number found cs h.1 below among)

pub outermost_block :
    (program : Y.Program) (m : Main) (e : Environment) → IsWellFormed program → IsMain program m →
    e.blocks ≡ blocks_of program.procedures → m.head.number ≤ e.block → block_around e 0 ≡ m.head.number
outermost_block program m e well main same below =
    let n = m.head.number in
    let has = subst HasMain main well.main in
    let own = subst (λ ps. Every (λ (p : Y.Procedure). IsOuter n (place_of_head (head_of p.block))) ps) (sym main)
    (λ none. refl, inner_outer n m.others has.1.1) in
    let place : place_of_head m.head ≡ outer_place n = ap (λ l. record { number = n; level = l }) has.0 in
    ap (λ bs. last_of_level e.block 0 0 bs) same
    ∙ last_outer n e.block 0 (blocks_of program.procedures)
    (all_outer n well.table program program.procedures well.procedures own) below
    (subst (λ (x : BlockPlace). IsAmong x (blocks_of program.procedures)) place
    (found_among n _ program.procedures (main_found program m main)))
