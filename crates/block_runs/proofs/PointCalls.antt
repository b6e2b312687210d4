-- The call of a procedure: from the instruction that calls it to its beginning, with the place where it goes back.
use Rattle.std.proofs.Common.{ℕ, ◌+◌, List, [], ◌∷◌, refl, sym, ap, ◌∙◌, arith}
use Rattle.rv_meaning.specs.declared.instr.Instr.{Instr}
use Rattle.pli_coding.specs.Assembly.{ProcedureEntry, size_of}
use Rattle.activation_relation.specs.Layers.{Point, services_of}
use Rattle.activation_relation.specs.Points.{Surroundings}
use Rattle.run_steps.proofs.Jumps.{call_piece}
use Rattle.run_steps.specs.Engine.{Base, address}
use Rattle.run_steps.specs.Reach.{Family, Reach, reached}
use Rattle.run_steps.proofs.Reach.{reach_then, reached_holds, reach_map}
use Rattle.block_runs.specs.Machines.{IsIn, AreIn}
use Rattle.block_runs.specs.Beginnings.{Beginning, IsCalled, IsCalling, CallStands, begun_point, beginning_code}
use Rattle.block_runs.proofs.BlockEntries.{Premises, begins}
use Rattle.block_runs.proofs.PointGrounds.{known_in, in_known, point_frame}

abbrev calling_regs : Beginning → Family → Base → List (ℕ × ℕ)
calling_regs x f b = (10, (f b).machine.registers 10) ∷ (12, x.texts) ∷ []

call_jumps :
    {w : Surroundings} {code : List Instr} {p : Point} {numbers : ℕ → ℕ} {x : Beginning} (c call entry : ℕ) (f : Family)
    (q : Premises w code p numbers x) → CallStands w code x call entry → AreIn w p numbers call f →
    ((b : Base) → IsCalling p x b (f b)) →
    Reach code c f (services_of p) (c + 2) (services_of p) (λ b y. IsIn w p numbers entry b y × IsCalled p x b y)
call_jumps {w} {p = p} {x = x} c call entry f q s there gives =
    let inside = s.begins.inside in
    let small' = s.begins.small' in
    let h = point_frame q.stands q.image in
    let r = call_piece {t = λ n. 0} {rs = calling_regs x f} c (c + 2) f (ProcedureEntry x.head.number) entry
    (omega arith)
    s.place (omega (arith, inside, small'))
    (record { reserved_stay = λ y u. refl; known_stay = λ b y u o. o; set = λ y u. refl }) s.calls
    (λ b. known_in h (there b) (refl, ((gives b).texts, tt))) in
    reach_map _ r
    (λ b y o. (
      in_known h q.image.parts o,
      record {
        calling = record {
          parent = λ some. o.holds.regs.1.0 ∙ (gives b).parent some;
          texts = o.holds.regs.1.1.0;
        };
        return = o.holds.regs.0 ∙ ap (address b) (sym s.back);
      },
    ))

-- from the call to the new block's own code
pub calls :
    {w : Surroundings} {code : List Instr} {p : Point} {numbers : ℕ → ℕ} {x : Beginning} (c call entry : ℕ) (f : Family)
    (q : Premises w code p numbers x) → CallStands w code x call entry → AreIn w p numbers call f →
    ((b : Base) → IsCalling p x b (f b)) →
    Reach code c f (services_of p) (c + 2 + size_of (beginning_code x)) (services_of (begun_point x p))
    (λ b y. IsIn w (begun_point x p) numbers (entry + size_of (beginning_code x)) b y)
calls c call entry f q s there gives =
    let r = call_jumps c call entry f q s there gives in
    reach_then r (begins (c + 2) entry (reached r) q s.begins (reached_holds r))
