-- The run of a whole program: its start, the main procedure's block, and the end.
use Rattle.std.proofs.Common.{◌≡◌, ℕ, suc, ◌+◌, List, ◌∷◌, Option, sym, ap, ◌∙◌, subst, refl}
use Rattle.std.proofs.Common.{arith}
use Rattle.pli_typing.specs.TypedTree as Y
use Rattle.pli_meaning.specs.BasicValues.{BasicValue}
use Rattle.pli_meaning.specs.Control.{Flow, Meaning, flow_on, finish, given, stored, stuck, ◌>>=◌, ◌>>◌}
use Rattle.pli_meaning.specs.declared.outcome.End.TheVariants as E
use Rattle.pli_meaning.specs.Executing as M
use Rattle.pli_meaning.specs.Executing.{begun}
use Rattle.pli_meaning.specs.Making.{statics_from}
use Rattle.pli_meaning.specs.StorageState.{first_state, with_world}
use Rattle.pli_meaning.specs.World.{World}
use Rattle.area_keeper.specs.KeeperLaws.{Keeps}
use Rattle.run_keeper.specs.RunKeeper.{run_keeper}
use Rattle.pli_coding.specs.Assembly.{CallTo, ProcedureEntry}
use Rattle.pli_coding.specs.Images.{first_frame}
use Rattle.pli_coding.specs.Procedures.{finish_code}
use Rattle.activation_relation.specs.Layers.{services_of}
use Rattle.run_steps.specs.Items.{Linked}
use Rattle.run_steps.proofs.Jumps.{back_of, rest_of}
use Rattle.run_steps.specs.Reach.{Comes, before}
use Rattle.run_steps.proofs.Reach.{comes_on, never_closed, onward}
use Rattle.block_runs.specs.Bodies.{behind_aims}
use Rattle.block_runs.proofs.CallStatements.{comes_map}
use Rattle.program_runs.specs.Calls.{block_at, body_index, called_at, labels_of, left_over}
use Rattle.program_runs.specs.Procedures.{block_of}
use Rattle.program_runs.specs.Programs.{Whole, IsWhole, main_of}
use Rattle.program_runs.specs.Starts.{image_parts, surroundings_of, start_point, first_family, call_index, never_in}
use Rattle.program_runs.specs.Starts.{finish_index, main_called, no_numbers}
use Rattle.program_runs.specs.Statements.{EachDoes, IsBegun}
use Rattle.program_runs.proofs.Calls.{BodyComes, body_goes, procedure_comes}
use Rattle.program_runs.proofs.Ends.{end_comes, finished_kind}
use Rattle.program_runs.proofs.Starts.{image_starts, start_stands}
use Rattle.block_runs.specs.Machines.{limits_of}

-- ---- what the program means

abbrev main_run : Whole → Flow (Option BasicValue)
main_run k =
    M.block_run (main_of k).around (block_of k.main) (begun (block_of k.main) 0) k.image.acts
    (first_state k.image.input)

run_means :
    (k : Whole) (first : List ℕ) → IsWhole k first →
    M.run k.program (suc k.image.acts) k.image.acts (first_state k.image.input)
    ≡ flow_on k.image.acts (main_run k) (λ r. finish E.Finished)
unfolding M.run M.entered given stored ◌>>=◌ ◌>>◌
run_means k first h =
    let acts = k.image.acts in
    let s = first_state k.image.input in
    let behind : Y.Procedure → Meaning (Unit {0}) = λ main.
    stored (statics_from 0 k.program.variables)
    >> (M.entered k.program (suc acts) (begun main.block 0) >> finish E.Finished) in
    ap (λ ps. given (M.main_of ps) behind stuck acts s) h.procedures
    ∙ ap (λ u. flow_on acts (M.entered k.program (suc acts) (begun (block_of k.main) 0) acts (with_world s.world u))
    (λ r. finish E.Finished)) h.statics

-- ---- behind the call of the main procedure

finish_linked :
    (k : Whole) (first : List ℕ) → IsWhole k first → Linked k.image.links k.image.code finish_index finish_code
finish_linked k first h =
    let main = k.main.head.number in
    let front = first_frame image_parts in
    rest_of (CallTo (ProcedureEntry main)) finish_code
    (rest_of _ (CallTo (ProcedureEntry main) ∷ finish_code)
    (rest_of _ _ (rest_of _ _ (back_of front (main_called main) h.start.linked))))

pub program_comes :
    Keeps run_keeper → (k : Whole) (first : List ℕ) → IsWhole k first →
    BodyComes (surroundings_of k.image) k.image.code (main_of k) (start_point k.image) no_numbers →
    Comes k.image.code 0 (first_family first (services_of (start_point k.image))) (services_of (start_point k.image))
    (never_in k.image) (M.run k.program (suc k.image.acts) k.image.acts (first_state k.image.input))
program_comes keeps k first h each =
    let i = k.image in
    let w = surroundings_of i in
    let p = start_point i in
    let c = main_of k in
    let level = h.level in
    let behind : Option BasicValue → Meaning (Unit {0}) = λ r. finish E.Finished in
    let last = finish_linked k first h in
    let room = last.inside in
    let inside = h.start.linked.inside in
    let proc = h.callee.stands.inside in
    subst (λ flow. Comes i.code 0 (first_family first (services_of p)) (services_of p) (never_in i) flow)
    (sym (run_means k first h))
    (onward (never_closed i.code (limits_of w)) (image_starts keeps i k.main.head.number first 0 h.start)
    (λ g at.
    comes_on i.acts (main_run k) behind
    (comes_map (behind_aims (called_at w i.code c p no_numbers) 0)
    (before i.code (never_in {R = Unit {0}} i) i.acts behind) refl (main_run k)
    (λ c' f' v' r s q.
    subst (λ u. Comes {R = Unit {0}} i.code c' f' v' (never_in i) (finish E.Finished i.acts u)) (sym q.state)
    (onward (never_closed i.code (limits_of w)) q.reach
    (λ g' at'.
    end_comes (never_closed i.code (limits_of w)) 0 E.Finished 0 g' (q.stands, q.image) finished_kind
    (omega (arith, room), h.callee.acts) last (λ b. (at' b).0))))
    (λ c' f' v' height label s q. absurd q)
    (λ c' f' v' r s q. absurd q)
    (procedure_comes w i.code c p no_numbers (0 + call_index) 0 g (start_stands i k.main.head.number first h.start)
    (omega arith) (h.callee, h.room) h.made (λ n. omega arith) each (omega (arith, inside, proc))
    (λ b. (at b).0)
    (λ b. record { parent = λ more. absurd (omega (arith, more, level)); texts = (at b).1 })))))

pub program_runs :
    Keeps run_keeper → (k : Whole) (first : List ℕ) → IsWhole k first →
    (IsBegun (block_at (surroundings_of k.image) k.image.code (main_of k) (start_point k.image) no_numbers) →
    EachDoes (block_at (surroundings_of k.image) k.image.code (main_of k) (start_point k.image) no_numbers)
    (labels_of (main_of k)) k.main.body (body_index (main_of k)) left_over) →
    Comes k.image.code 0 (first_family first (services_of (start_point k.image))) (services_of (start_point k.image))
    (never_in k.image) (M.run k.program (suc k.image.acts) k.image.acts (first_state k.image.input))
program_runs keeps k first h each =
    let same = ap (λ (u : World). u.acts) h.made.world in
    program_comes keeps k first h
    (λ b o f at. body_goes (surroundings_of k.image) k.image.code (main_of k) (start_point k.image) no_numbers f
    h.callee b o (each b) (omega (arith, same)) at)
