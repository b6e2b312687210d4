-- What an empty procedure means, and what its code is.
use Rattle.std.proofs.Common.{◌≡◌, ℕ, suc, List, [], ◌∷◌, ◌++◌, Bool, true, false, None, length, refl, sym, ap, ◌∙◌}
use Rattle.std.proofs.lemmas.List.{append_assoc}
use Rattle.std.specs.Prelude.{nat_lt, cond, Some, Option}
use Rattle.pli_typing.specs.TypedTree as Y
use Rattle.pli_meaning.specs.BasicValues.{BasicValue}
use Rattle.pli_meaning.specs.Control as F
use Rattle.pli_meaning.specs.Control.{Flow, Normal, Jump, Return, Paused, Stuck, Meaning, flow_on, act, left, list_from}
use Rattle.pli_meaning.specs.Control.{give, looked, stored, choose, leaving, finish, ◌>>=◌, ◌>>◌}
use Rattle.pli_meaning.specs.DeclaredShapes.{variables_of_block}
use Rattle.pli_meaning.specs.Executing as M
use Rattle.pli_meaning.specs.Executing.{begun, with_activation}
use Rattle.pli_meaning.specs.Making as K
use Rattle.pli_meaning.specs.Raising.{Around, at_line}
use Rattle.pli_meaning.specs.StorageState.{State, newest_ended, newest_height, most_activations}
use Rattle.pli_meaning.specs.declared.outcome.End.TheVariants as N
use Rattle.pli_meaning.specs.declared.outcome.Limit.TheVariants as L
use Rattle.pli_meaning.specs.World.{counted}
use Rattle.pli_coding.specs.Allocating.{act_code}
use Rattle.pli_coding.specs.Assembly.{Code, Item, Mark, ProcedureEntry, ReturnPlace}
use Rattle.pli_coding.specs.Entries.{frame_begun, block_entered}
use Rattle.pli_coding.specs.Entries as E
use Rattle.pli_coding.specs.Environments.{Environment}
use Rattle.pli_coding.specs.Instructions.{move}
use Rattle.pli_coding.specs.Procedures.{procedure_with}
use Rattle.pli_coding.specs.Registers.{a1, a2, a3, u5}
use Rattle.block_runs.specs.Beginnings.{Beginning}
use Rattle.block_runs.specs.EmptyProcedures.{empty_code}
use Rattle.block_runs.specs.Endings.{ending_code}

-- ---- the meaning, part by part

none_made :
    (around : Around) (vs : List Y.DeclaredVariable) (k : ℕ) (s : State) → vs ≡ [] →
    K.variables_made around 0 vs k s ≡ Normal tt s
unfolding K.variables_made give
none_made around vs k s e = ap (λ xs. K.variables_made around 0 xs k s) e

pub variables_none :
    (around : Around) (head : Y.BlockHead) (kind : Y.BlockKind) (k : ℕ) (s : State) → kind ≡ Y.ProcedureBlock →
    variables_of_block around.program head.number ≡ [] → M.block_variables_made around head kind k s ≡ Normal tt s
unfolding M.block_variables_made
variables_none around head kind k s e none =
    ap (λ x. M.block_variables_made around head x k s) e
    ∙ none_made around (variables_of_block around.program head.number) k s none

pub entry_acts :
    (kind : Y.BlockKind) (k : ℕ) (s : State) → kind ≡ Y.ProcedureBlock → M.entry_act kind k s ≡ act counted k s
unfolding M.entry_act
entry_acts kind k s e = ap (λ x. M.entry_act x k s) e

list_none :
    (around : Around) (turns k : ℕ) (s : State) → around.turns ≡ suc turns →
    M.list around (Y.EndOfList []) k s ≡ Normal tt s
unfolding M.list M.list_with looked ◌>>=◌ list_from M.statements give
list_none around turns k s e =
    ap (λ n. list_from n (newest_height s.activations) [] (M.statements around (Y.EndOfList [])) None k s) e

pub on_nothing :
    (k : ℕ) (flow : Flow (Unit {0})) (next : Unit {0} → Meaning (Unit {0})) →
    ((s : State) → next tt k s ≡ Normal tt s) →
    flow_on k flow next ≡ flow
on_nothing k (Normal r s) next h = h s
on_nothing k (Jump height label s) next h = refl
on_nothing k (Return v s) next h = refl
on_nothing k (F.Ended s) next h = refl
on_nothing k (Paused s) next h = refl
on_nothing k Stuck next h = refl

abbrev behind_act : Around → Meaning (Unit {0})
behind_act around = M.block_list around (Y.EndOfList []) false

behind_none :
    (around : Around) (turns k : ℕ) (s : State) → around.turns ≡ suc turns → behind_act around k s ≡ Normal tt s
unfolding M.block_list
behind_none around turns k s e = list_none around turns k s e

body_acts :
    (around : Around) (head : Y.BlockHead) (parent turns k : ℕ) (s : State) → around.turns ≡ suc turns →
    head.kind ≡ Y.ProcedureBlock → variables_of_block around.program head.number ≡ [] →
    M.block_body around head (Y.EndOfList []) (begun (Y.BlockOf head (Y.EndOfList [])) parent) k s ≡ act counted k s
unfolding M.block_body K.parameters_bound give ◌>>◌
body_acts around head parent turns k s e kind none =
    ap (λ flow. flow_on k flow (λ q. M.entry_act head.kind >> behind_act around))
    (variables_none around head head.kind k s kind none)
    ∙ ap (λ flow. flow_on k flow (λ q. behind_act around)) (entry_acts head.kind k s kind)
    ∙ on_nothing k (act counted k s) (λ q. behind_act around) (λ s'. behind_none around turns k s' e)

pub own_return : (kind : Y.BlockKind) → kind ≡ Y.ProcedureBlock → M.is_own_return kind ≡ true
own_return kind e = ap M.is_own_return e

pub empty_means :
    (around : Around) (head : Y.BlockHead) (parent turns k : ℕ) (s : State) → around.turns ≡ suc turns →
    head.kind ≡ Y.ProcedureBlock → variables_of_block around.program head.number ≡ [] →
    nat_lt (length s.activations) most_activations ≡ true →
    M.block_run around (Y.BlockOf head (Y.EndOfList [])) (begun (Y.BlockOf head (Y.EndOfList [])) parent) k s
    ≡ left true newest_ended
    (act counted k (with_activation head (begun (Y.BlockOf head (Y.EndOfList [])) parent) s))
unfolding M.block_run looked stored choose leaving ◌>>=◌ ◌>>◌
empty_means around head parent turns k s e kind none few =
    let entry = begun (Y.BlockOf head (Y.EndOfList [])) parent in
    let s' = with_activation head entry s in
    let around' = at_line around head.line in
    let run : Bool → Flow (Option BasicValue) = λ q. cond q
    (left (M.is_own_return head.kind) newest_ended (M.block_body around' head (Y.EndOfList []) entry k s'))
    (finish (N.Limit L.Depth) k s) in
    ap run few
    ∙ ap (λ q. left q newest_ended (M.block_body around' head (Y.EndOfList []) entry k s')) (own_return head.kind kind)
    ∙ ap (λ flow. left true newest_ended flow) (body_acts around' head parent turns k s' e kind none)

-- ---- the code

pub join_code :
    (frame : Code) (m n : Item) (enter act' rest : Code) →
    (frame ++ (m ∷ n ∷ (enter ++ act'))) ++ rest ≡ (frame ++ (m ∷ n ∷ enter)) ++ (act' ++ rest)
join_code frame m n enter act' rest =
    append_assoc frame (m ∷ n ∷ (enter ++ act')) rest
    ∙ ap (λ u. frame ++ (m ∷ n ∷ u)) (append_assoc enter act' rest)
    ∙ sym (append_assoc frame (m ∷ n ∷ enter) (act' ++ rest))

pub empty_coded :
    (e : Environment) (x : Beginning) → e.block ≡ x.head.number → x.layer.level ≡ x.head.level →
    x.layer.parameters ≡ 0 → variables_of_block e.program e.block ≡ [] →
    procedure_with e x.head (Y.EndOfList []) x.layer.words x.layer.saved [] None
    ≡ Mark (ProcedureEntry x.head.number) ∷ empty_code x
empty_coded e x number level parameters none =
    let line = x.head.line in
    let rest = Mark (ReturnPlace x.head.number) ∷ ending_code x.layer None in
    let entry = Mark (ProcedureEntry x.head.number) in
    let frame = frame_begun x.layer.words x.head.level 0 (Some x.layer.saved) in
    ap (λ vs. entry ∷ ((frame ++
    (move u5 a1 ∷ move a3 a2 ∷ (block_entered 0 line ++ (E.variables_made e line 0 vs ++ act_code line)))) ++
    rest)) none
    ∙ ap (λ u. entry ∷ u) (join_code frame (move u5 a1) (move a3 a2) (block_entered 0 line) (act_code line) rest)
    ∙ ap (λ n. entry ∷ ((frame_begun x.layer.words n 0 (Some x.layer.saved) ++
    (move u5 a1 ∷ move a3 a2 ∷ block_entered 0 line)) ++ (act_code line ++ rest))) (sym level)
    ∙ ap (λ n. entry ∷ ((frame_begun x.layer.words x.layer.level n (Some x.layer.saved) ++
    (move u5 a1 ∷ move a3 a2 ∷ block_entered 0 line)) ++ (act_code line ++ rest))) (sym parameters)
