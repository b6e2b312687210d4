-- NULL and OFFSET variables of a block as offsets: the code that leaves their words.
use Rattle.std.proofs.Common.{ℕ, ◌+◌, ◌^◌, ◌<◌, List, Some, None, Option, refl, sym, ap, subst, arith}
use Rattle.std.specs.Prelude.{negsuc, pos, ◌==◌}
use Rattle.rv_meaning.specs.declared.instr.LoadKind.TheVariants as Load
use Rattle.pli_typing.specs.TypedTree as Y
use Rattle.pli_meaning.specs.Control.{give}
use Rattle.pli_meaning.specs.Evaluating as V
use Rattle.pli_serving.specs.Bytes.{offset_word}
use Rattle.pli_coding.specs.Assembly.{size_of}
use Rattle.pli_coding.specs.Expressions.{offset_code}
use Rattle.pli_coding.specs.Registers.{a0}
use Rattle.storage_relation.specs.Telling.{IsOffset}
use Rattle.activation_relation.specs.Layers.{Point, services_of}
use Rattle.run_steps.specs.Bodies.{Known}
use Rattle.run_steps.proofs.Bodies.{constant_piece}
use Rattle.run_steps.specs.Items.{At, Linked}
use Rattle.run_steps.specs.Reach.{Closed, Comes, Family, Reach}
use Rattle.run_steps.proofs.Reaching.{read_based}
use Rattle.run_steps.specs.Temporaries.{nothing}
use Rattle.block_runs.specs.Machines.{AreIn}
use Rattle.block_runs.proofs.PointGrounds.{known_in, point_frame, point_ground}
use Rattle.pli_meaning.specs.Control.{Label}
use Rattle.program_runs.specs.Statements.{Block, IsAmong, IsBegun}
use Rattle.program_runs.proofs.JumpsOut.{jumps_later}
use Rattle.expression_runs.specs.Values.{HasWord, Setting, Stretch, behind, in_registers}
use Rattle.expression_runs.specs.Variables.{Spot, number_place, whole}
use Rattle.expression_runs.proofs.VariablePoints.{reaches_by}
use Rattle.expression_runs.proofs.Words.{frame_of, valued, word_here, word_later}
use Rattle.scalar_runs.proofs.ScalarCode.{loads}
use Rattle.scalar_runs.proofs.ScalarPoints.{at_of, place_at, room_at}
use Rattle.offset_runs.specs.Offsets.{Gives, IsOffsetVariable, offset_aims}
use Rattle.offset_runs.proofs.OffsetCode.{offset_loaded}
use Rattle.offset_runs.proofs.OffsetMeaning as N
use Rattle.offset_runs.proofs.OffsetPoints.{OffsetAt, offset_at}

pub word_small : (o : Option ℕ) → IsOffset o → offset_word o < 2 ^ 32
word_small None h = omega arith
word_small (Some o) h = omega (arith, h)

pub offset_closed : (k : Block) (labels : List Label) (x : Stretch) → Closed k.call.code (offset_aims k labels x)
offset_closed k labels x =
    record {
      done = λ r z s o. (o.0, word_later r o.1);
      jumped = λ r height label s o. jumps_later r o;
      returned = λ r z s o. absurd o;
    }

-- ---- NULL

pub null_gives : (k : Setting) → Gives k 0 Y.NullOffset
unfolding V.offset give
null_gives k p numbers taken c index f o line registers l paid there =
    let h = point_frame o.stands o.image in
    let part = offset_code k.block.environment (in_registers k.words taken) Y.NullOffset in
    let r = constant_piece {t = λ i. 0} {rs = nothing} c f a0 (negsuc 0) (omega arith)
    (record { reserved_stay = λ y u. refl; known_stay = λ b y u q. q; set = λ y u. refl }) l
    (λ b. known_in h (there b) tt) in
    record { to = λ early. (tt, word_here {x = behind p numbers taken c index part} h o (omega arith) refl r) }

-- ---- a variable

read_reaches :
    {k : Block} {x : Spot} {area : Option Y.Variable} (is : IsOffsetVariable k x area) {numbers : ℕ → ℕ} {p : Point}
    {index : ℕ} → IsBegun k → (o : IsAmong k numbers p) (c : ℕ) (f : Family) (h : frame_of k p) (n : OffsetAt is p) →
    Linked k.call.surroundings.links k.call.code index (loads Load.Word k.environment x) →
    AreIn k.call.surroundings p numbers index f →
    Reach k.call.code c f (services_of p) (c + size_of (loads Load.Word k.environment x)) (services_of p)
    (λ b y. At b (index + size_of (loads Load.Word k.environment x))
    (Known (point_ground k.call.surroundings p h) (services_of p) numbers (λ j. 0)
    (valued (offset_word n.holds.offset)) b) y)
read_reaches {k} {x} is {numbers} {p} {index} begun o c f h n l there =
    let e = k.environment in
    let inside = room_at is in
    read_based (x.level == e.level) x.level {t = λ i. 0} c f is.known.base Load.Word (pos (number_place e x))
    (at_of is) (λ b. offset_word n.holds.offset) (reaches_by x.level is.known.base h begun o is.known.frame)
    (omega (arith, inside)) (place_at is n.even) (λ b m stands. n.tells m stands.storage) l
    (λ b. known_in h (there b) tt)

abbrev at_end : (p : Point) (numbers : ℕ → ℕ) (taken c index j : ℕ) → Stretch
at_end p numbers taken c index j =
    record {
      acts = p.state.world.acts;
      line = p.control.line;
      index = index + j;
      wanted = c + j;
      taken = taken;
      numbers = numbers;
    }

pub variable_gives :
    (k : Setting) (x : Spot) (area : Option Y.Variable) → IsBegun k.block → IsOffsetVariable k.block x area →
    Gives k 0 (Y.OffsetIn (whole x))
variable_gives k x area begun is p numbers taken c index f o line registers l paid there =
    let e = k.block.environment in
    let w = k.block.call.surroundings in
    let t = in_registers k.words taken in
    let n = offset_at is begun o f there in
    let h = point_frame o.stands o.image in
    let code = offset_loaded e t x area is.initial is.known.declared in
    let size = ap (λ u. size_of u) code in
    let r = read_reaches is begun o c f h n (subst (Linked w.links k.block.call.code index) code l) there in
    let part = loads Load.Word e x in
    subst (λ flow. Comes k.block.call.code c f (services_of p)
    (offset_aims k.block k.labels (behind p numbers taken c index (offset_code e t (Y.OffsetIn (whole x))))) flow)
    (sym (N.offset_is k.around w.acts n.holds))
    (record {
      to = λ early. (
        n.fits,
        subst (λ j. HasWord k.block (at_end p numbers taken c index j) (offset_word n.holds.offset) c f (services_of p)
            p.state) (sym size)
            (word_here {x = at_end p numbers taken c index (size_of part)} h o (omega arith) refl r),
      );
    })
