-- A value is evaluated and assigned to an element of an array, for a ground on which the array stands.
use Rattle.std.proofs.Common.{◌≡◌, ℕ, suc, ◌+◌, ◌*◌, ◌<◌, ◌≤◌, List, length, true, sym, ap, ◌∙◌, subst, arith}
use Rattle.std.specs.Prelude.{ℤ}
use Rattle.rv_meaning.specs.declared.instr.Instr.{Instr}
use Rattle.rv_meaning.specs.Words.{word}
use Rattle.rv_meaning.specs.Memory.{store}
use Rattle.rv_meaning.specs.Machine.{memory_size, store_width}
use Rattle.pli_typing.specs.Signatures.{Bounds, element_count}
use Rattle.pli_typing.specs.TypedTree as Y
use Rattle.pli_meaning.specs.BasicValues.{BasicValue}
use Rattle.pli_meaning.specs.Contents.{is_within, element_place}
use Rattle.pli_meaning.specs.StorageState.{State}
use Rattle.pli_meaning.specs.Control.{Meaning, ◌>>=◌}
use Rattle.pli_meaning.specs.Raising.{Around}
use Rattle.pli_meaning.specs.Evaluating as V
use Rattle.pli_meaning.specs.Executing as M
use Rattle.pli_serving.specs.ServiceState.{Services}
use Rattle.pli_coding.specs.Assembly.{size_of}
use Rattle.pli_coding.specs.Environments.{Environment, Taken}
use Rattle.pli_coding.specs.Expressions.{given_in, stored_code}
use Rattle.pli_coding.specs.Storing.{word_stored, stored_into, assigned_code}
use Rattle.pli_coding.specs.Linking.{Links}
use Rattle.temporary_bounds.specs.Spare.{spare}
use Rattle.pli_headline.specs.ProvedSoFar.{Names}
use Rattle.run_steps.specs.Engine.{Base, address}
use Rattle.run_steps.proofs.Linking.{size_append}
use Rattle.run_steps.specs.Items.{Linked, At}
use Rattle.run_steps.specs.Bodies.{Ground, Known, reserved_are}
use Rattle.run_steps.proofs.Jumps.{front_of, back_of}
use Rattle.run_steps.specs.Temporaries.{Temporaries, Stays, nothing}
use Rattle.run_steps.proofs.Temporaries.{stays_then}
use Rattle.pli_headline.proofs.Serving.{Serving}
use Rattle.pli_headline.proofs.Raising.{Routines}
use Rattle.pli_headline.proofs.Scalars.{Fits, store_kind}
use Rattle.pli_headline.proofs.Variables.{data_place}
use Rattle.pli_headline.proofs.Assignments.{Stores}
use Rattle.pli_headline.proofs.Subscripts.{EvaluatesAll}
use Rattle.pli_headline.proofs.ArrayMeant.{element, element_state}
use Rattle.pli_headline.proofs.ArrayElements.{ArrayScope, element_stored_piece}
use Rattle.run_steps.specs.Reach.{Family, Aims, Comes, Closed}
use Rattle.run_steps.proofs.Reach.{before_closed, comes_on}

pub element_assigned_piece : {links : Links} {code : List Instr} {i : ℕ} {g : Ground} (g' : ℤ → ℕ → Ground) {v :
    Services} {h t : ℕ → ℕ} {s : State} {aims : Aims (Unit {0})} {e : Environment} {block : Names} {j : ℕ} {type :
    Y.LeafType} {bs : List Bounds} {n : ℕ → ℤ} (closed : Closed code aims) (routines : Routines links code) (temps :
    Temporaries g) (scope : ArrayScope g e s block j type bs n) (f : Family) (around : Around) (taken :
    Taken) (k due words : ℕ) (first : Y.Number) (rest : Y.Numbers) (source : Y.Stored)
    → Stores links code g v s k due type (λ u. stored_code e u source) (V.stored_value around source)
    → stored_into e taken (element block j first rest) source ≡ word_stored e taken (element block j first rest)
    → EvaluatesAll links code g v s k words e around (Y.NumberThen first rest) → suc (given_in rest) ≡ length bs
    → taken.words + due ≤ g.words + spare taken → taken.words + suc words ≤ g.words + spare taken
    → Serving k s v around.line
    → ((z : ℤ) (p : ℕ) (b : Base) (h' : ℕ → ℕ) → reserved_are b g h' ≡ reserved_are b (g' z p) h')
    → ((z : ℤ) (p : ℕ) → Fits type z → p < element_count bs → (t' : ℕ → ℕ) (b : Base) (m : List ℕ)
    → length m ≡ memory_size → g.memory t' b m
    → (g' z p).memory t' b (store (store_width (store_kind type)) m (scope.base + 4 * p + data_place e block j)
    (word z))) → Linked links code i (assigned_code e taken (element block j first rest) source)
    → ((b : Base) → At b i (Known g v h t nothing b) (f b))
    → ((z : ℤ) (is : List ℤ) (f' : Family) (h' t' : ℕ → ℕ) → Fits type z → is_within bs is ≡ true
    → Stays taken h t h' t'
    → ((b : Base)
    → At b (i + size_of (assigned_code e taken (element block j first rest) source))
    (Known (g' z (element_place bs is)) v h' t' nothing b) (f' b))
    → aims.done (i + size_of (assigned_code e taken (element block j first rest) source)) f' v tt
    (element_state s type bs scope.serial scope.holds.values is z))
    → Comes code i f v aims
    (((V.stored_value around source) >>= (λ y. M.assigned around (element block j first rest) y)) k s)
unfolding ◌>>=◌
element_assigned_piece {links = links} {code = code} {i = i} g' {v = v} {s = s} {aims = aims} {e = e} {block =
    block} {j = j} {type = type} {bs = bs} closed routines temps scope f around taken k due words first rest source
    stores into all same room some serving alike writes l at goal =
    let target = element block j first rest in
    let a = stored_code e taken source in
    let c = word_stored e taken target in
    let next' : BasicValue → Meaning (Unit {0}) = λ y. M.assigned around target y in
    let size = size_append a (stored_into e taken target source) in
    let size' = ap size_of into in
    let there : i + size_of a + size_of c ≡ i + size_of (assigned_code e taken target source) = omega (arith, size, size') in
    let l2 = subst (Linked links code (i + size_of a)) into (back_of a (stored_into e taken target source) l) in
    comes_on k (V.stored_value around source k s) next'
    (stores.does (before_closed k next' closed) f taken room (front_of a (stored_into e taken target source) l) at
    (λ z f1 h1 t1 fits stays at1.
    element_stored_piece (g' z) closed routines temps scope f1 around taken z k words first rest all same fits some
    serving (alike z) (λ p below t' b m len o. writes z p fits below t' b m len o) l2 at1
    (λ is f2 h2 t2 inside stays2 at2.
    subst (λ u. aims.done u f2 v tt (element_state s type bs scope.serial scope.holds.values is z)) (sym there)
    (goal z is f2 h2 t2 fits inside (stays_then stays stays2) (λ b. record { pc = (at2 b).pc ∙ ap (address b) there; holds = (at2 b).holds })))))
