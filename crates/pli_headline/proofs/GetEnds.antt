-- ENDFILE is raised in GET, where no character is left: its unit runs, and the run goes on at the statement's exit; without one it ends.
use Rattle.std.proofs.Common.{◌≡◌, ℕ, suc, ◌+◌, ◌<◌, ◌≤◌, List, [], ◌∷◌, length, refl, sym, ap, ◌∙◌, subst, arith, lit<}
use Rattle.pli_language.specs.declared.condition.Condition.TheVariants as C
use Rattle.rv_meaning.specs.declared.instr.Instr.{Instr}
use Rattle.pli_meaning.specs.Codes.{endfile_code}
use Rattle.pli_meaning.specs.StorageState.{State, force}
use Rattle.pli_meaning.specs.Control.{Meaning, flow_on}
use Rattle.pli_meaning.specs.Raising as R
use Rattle.pli_meaning.specs.Raising.{Around}
use Rattle.pli_serving.specs.ServiceState.{Services}
use Rattle.pli_serving.specs.OnUnits as U
use Rattle.pli_coding.specs.Assembly.{JumpAhead}
use Rattle.pli_coding.specs.Arithmetic.{raised}
use Rattle.pli_coding.specs.Environments.{Environment}
use Rattle.pli_coding.specs.Linking.{Links}
use Rattle.pli_headline.specs.ProvedSoFar.{Names, Types}
use Rattle.pli_headline.proofs.Storages.{storage}
use Rattle.run_steps.specs.Engine.{Base, address}
use Rattle.run_steps.specs.Items.{Linked, At}
use Rattle.run_steps.specs.Bodies.{Known}
use Rattle.run_steps.proofs.Jumps.{front_of, back_of, ahead_piece, linked_at}
use Rattle.run_steps.specs.Temporaries.{nothing, Stays}
use Rattle.pli_headline.proofs.Entered.{both_in_force}
use Rattle.pli_headline.proofs.Serving.{Serving}
use Rattle.pli_headline.proofs.Raising.{Routines}
use Rattle.pli_headline.proofs.Operators.{raised_alone}
use Rattle.pli_headline.proofs.Ifs.{free_far}
use Rattle.pli_headline.proofs.Statements.{Block, AllHold, Enough}
use Rattle.run_steps.proofs.Owing.{comes_owing}
use Rattle.pli_headline.proofs.UnitRuns.{by_force, Raises}
use Rattle.pli_headline.proofs.GetPieces.{endfile_code_raised}
use Rattle.run_steps.specs.Reach.{Family, Aims, Comes, Closed}
use Rattle.run_steps.proofs.Reach.{before_closed, comes_on, onward}
use Rattle.pli_headline.proofs.Scalars.{Values}

-- at the exit, where a place in a format list is left of the statement
abbrev pub AtExit : {e : Environment} {block : Names} {types : Types} → Block e block types → (k count : ℕ) → (h t : ℕ → ℕ) → (exit : ℕ) → {R : Type 0} → R → Aims R → Type 0
AtExit {e} {block} {types} bl k count h0 t0 exit r aims =
    (s : State) (v : Services) (line : ℕ) (n : Values) (h t : ℕ → ℕ) (f : Family) → Serving k s v line → AllHold bl.frames bl.serials (storage v) (e.level ∷ bl.depths) s block types n → length v.edits ≡ suc count → Stays bl.taken h0 t0 h t → ((b : Base) → At b exit (Known (bl.ground n) v h t nothing b) (f b)) → aims.done exit f v r s

-- the raise, and the way to the exit
pub end_raised : {e : Environment} {block : Names} {types : Types} (bl : Block e block types) {links : Links} {code : List Instr} {i : ℕ} {v : Services} {h t : ℕ → ℕ} {s : State} {X : Type 0} {aims : Aims X} (closed : Closed code aims) (routines : Routines links code) (around : Around) (can : Raises bl links code around C.Endfile endfile_code) (last : Meaning X) (n : Values) (f : Family) (behind exit k start acts : ℕ) → i + 6 + behind ≡ exit → exit + 2 ≤ length code → Linked links code i (endfile_code_raised behind) → Serving k s v around.line → AllHold bl.frames bl.serials (storage v) (e.level ∷ bl.depths) s block types n → ((b : Base) → At b i (Known (bl.ground n) v h t nothing b) (f b)) → Enough bl links k around.turns start h t acts aims.jumped aims.returned → acts < v.world.acts → ((s' : State) (v' : Services) (line' : ℕ) (n' : Values) (h' : ℕ → ℕ) (f' : Family) → Serving k s' v' line' → AllHold bl.frames bl.serials (storage v') (e.level ∷ bl.depths) s' block types n' → length v'.edits ≡ length v.edits → Stays bl.taken h t h' t → ((b : Base) → At b exit (Known (bl.ground n') v' h' t nothing b) (f' b)) → Comes code exit f' v' aims (last k s')) → Comes code i f v aims (flow_on k (R.raised around C.Endfile endfile_code k s) (λ u. last))
end_raised bl {links} {code} {i} {v} {h} {t} {s} {X} {aims} closed routines around can last n f behind exit k start acts place inside l serving all at more later goal =
    let next' : Unit {0} → Meaning X = λ u. last in
    let r = raised C.Endfile endfile_code in
    let over = JumpAhead behind ∷ [] in
    let there : i + 2 + 2 + (2 + behind) ≡ exit = omega (arith, place) in
    by_force (bl.frames.known C.Endfile) (force s.activations C.Endfile) (U.force v.activations C.Endfile) (both_in_force bl.frames.known s.activations v.activations C.Endfile all.units)
    (λ only served.
    comes_on k (R.raised around C.Endfile endfile_code k s) next'
    (raised_alone (before_closed k next' closed) routines f around C.Endfile 4 endfile_code over k refl (lit< tt) (lit< tt) only served l serving at))
    (λ a u x at' found served parent known.
    comes_on k (R.raised around C.Endfile endfile_code k s) next'
    (comes_owing (length code) (R.raised around C.Endfile endfile_code k s)
    (can.raises (before_closed k next' closed) n f (i + length code) k start acts a u x at' found served parent known (omega (arith, place, inside)) (front_of r over l) serving all at
    (λ s1 v1 line1 n1 h1 f1 serving1 all1 as1 at1.
    onward closed (ahead_piece (i + 2 + 2) f1 behind (omega (arith, place, inside)) free_far (linked_at (i + 2 + 2) over (omega arith) (back_of r over l)) at1)
    (λ f2 at2.
    subst (λ q. Comes code q f2 v1 aims (last k s1)) (sym there)
    (goal s1 v1 line1 n1 h1 f2 serving1 all1 as1
    (record { registers = λ y below. absurd (let held = bl.held in omega (arith, held, below)); words = λ j below. refl })
    (λ b. record { pc = (at2 b).pc ∙ ap (address b) there; holds = (at2 b).holds }))))
    more later)))
