-- A FIXED BINARY(31) variable that is read into.
use Rattle.std.proofs.Common.{◌≡◌, ℕ, ◌+◌, Some, true, refl, sym, ap, ◌∙◌, subst, arith}
use Rattle.std.specs.Prelude.{ℤ, pos, ◌==◌, Option, slice_get, unwrap_or}
use Rattle.rv_meaning.specs.declared.instr.StoreKind.TheVariants as Store
use Rattle.rv_meaning.specs.Machine.{value}
use Rattle.rv_meaning.specs.Memory.{store}
use Rattle.rv_meaning.specs.Words.{word}
use Rattle.pli_typing.specs.TypedTree as Y
use Rattle.pli_meaning.specs.DeclaredShapes.{declared_variable}
use Rattle.pli_meaning.specs.Numbers.{is_of_precision}
use Rattle.pli_meaning.specs.Streaming.{target_type, type_of_first}
use Rattle.pli_coding.specs.Assembly.{size_of}
use Rattle.pli_coding.specs.Environments.{no_declaration}
use Rattle.pli_coding.specs.Locating.{no_leaf}
use Rattle.pli_coding.specs.Registers.{a0}
use Rattle.pli_coding.specs.Storing.{word_stored}
use Rattle.activation_relation.specs.Layers.{Point, services_of}
use Rattle.run_steps.specs.Engine.{Base}
use Rattle.run_steps.specs.Items.{Linked}
use Rattle.run_steps.specs.Reach.{Comes, Family, Reach}
use Rattle.run_steps.proofs.Reach.{reach_map}
use Rattle.run_steps.proofs.Reaching.{write_based}
use Rattle.run_steps.specs.Temporaries.{nothing}
use Rattle.block_runs.specs.Machines.{IsIn}
use Rattle.block_runs.proofs.PointGrounds.{StandsIn, in_known, point_frame, point_ground}
use Rattle.program_runs.specs.Statements.{Block, IsAmong, IsBegun}
use Rattle.expression_runs.specs.Values.{Setting, in_registers}
use Rattle.expression_runs.specs.Variables.{IsNumber, Spot, number_place, variable_of, whole, whole_part}
use Rattle.expression_runs.proofs.AssignedPoints.{Assigning, assigned_among, behind_assigned, services_same}
use Rattle.expression_runs.proofs.AssignedPoints.{stands_assigned}
use Rattle.expression_runs.proofs.VariableCode.{stored_is, stores}
use Rattle.expression_runs.proofs.VariableMeaning.{assigned_is}
use Rattle.expression_runs.proofs.VariablePoints.{NumberAt, first_base, number_at, place_at, reaches_by}
use Rattle.expression_runs.proofs.Words.{known_word}
use Rattle.get_runs.specs.Gets.{IsTarget, Stores, behind_aims}

abbrev assigning : {k : Block} {x : Spot} {is : IsNumber k x} {p : Point} → NumberAt k x is p → (z : ℤ) →
    is_of_precision 31 z ≡ true → Assigning p
assigning n z wide =
    record {
      serial = n.holds.serial;
      values = n.holds.values;
      living = n.holds.living;
      lives = n.holds.lives;
      generation = n.holds.generation;
      z = z;
      wide = wide;
    }

-- a number in a0 is stored: from there to the point behind
store_reaches :
    (k : Block) (x : Spot) (is : IsNumber k x) {numbers : ℕ → ℕ} {p : Point} {index : ℕ} → IsBegun k →
    IsAmong k numbers p → (c : ℕ) (f : Family) (z : ℤ) (wide : is_of_precision 31 z ≡ true) (n : NumberAt k x is p) →
    Linked k.call.surroundings.links k.call.code index (stores k.environment x) →
    ((b : Base) → IsIn k.call.surroundings p numbers index b (f b) × (value (f b).machine a0 ≡ word z)) →
    Reach k.call.code c f (services_of p) (c + size_of (stores k.environment x))
    (services_of (behind_assigned p (assigning n z wide)))
    (λ b y. IsIn k.call.surroundings (behind_assigned p (assigning n z wide)) numbers
    (index + size_of (stores k.environment x)) b y)
store_reaches k x is {numbers} {p} {index} begun o c f z wide n l there =
    let w = k.call.surroundings in
    let e = k.environment in
    let a = assigning n z wide in
    let q = behind_assigned p a in
    let h = point_frame o.stands o.image in
    let g' = point_ground w q h in
    let inside = is.inside in
    let base = first_base in
    let even = (n.tells (f base).machine.memory (there base).0.at.storage).1 in
    let r = write_based (x.level == e.level) x.level g' {t = λ j. 0} c f is.base Store.Word (pos (number_place e x))
    (is.base + number_place e x) (word z) (reaches_by x.level is.base h begun o is.frame) (omega (arith, inside))
    (place_at k x is even) (λ b. refl)
    (λ b m bytes stands. subst (λ j. StandsIn w q b (store 4 m j (word z))) n.here
    (stands_assigned w p a b m o.stands stands)) l (λ b. known_word k h (there b)) in
    subst (λ v. Reach k.call.code c f (services_of p) (c + size_of (stores e x)) v
    (λ b y. IsIn w q numbers (index + size_of (stores e x)) b y)) (sym (services_same p a))
    (reach_map _ r (λ b y s.
    in_known {t = λ j. 0} {rs = nothing} h o.image.parts
    (record {
      pc = s.pc;
      holds = record {
        body = record {
          services = s.holds.body.services ∙ sym (services_same p a);
          registers = s.holds.body.registers;
          bytes = s.holds.body.bytes;
          memory = s.holds.body.memory;
        };
        regs = s.holds.regs;
      };
    })))

number_stores : (k : Setting) (x : Spot) → IsBegun k.block → IsNumber k.block x → (need : ℕ) → Stores k need (whole x)
number_stores k x begun is need p numbers c index f z wide o line registers l paid there =
    let w = k.block.call.surroundings in
    let code = k.block.call.code in
    let e = k.block.environment in
    let n = number_at x is begun o f (λ b. (there b).0) in
    let a = assigning n z wide in
    let q = behind_assigned p a in
    let coded = stored_is e (in_registers k.words 0) x is.initial is.declared in
    let size = ap (λ u. size_of u) coded in
    let r = store_reaches k.block x is begun o c f z wide n (subst (Linked w.links code index) coded l) there in
    subst (Comes code c f (services_of p) (behind_aims k p.state.world.acts
    (index + size_of (word_stored e (in_registers k.words 0) (whole x)))
    (c + size_of (word_stored e (in_registers k.words 0) (whole x)))))
    (sym (assigned_is k.around w.acts z n.holds))
    (record {
      to = λ early. record {
        goes = record {
          point = q;
          numbers = numbers;
          among = assigned_among a o;
          since = omega arith;
          state = refl;
          reach = subst (λ m. Reach code c f (services_of p) (c + m) (services_of q)
              (λ b y. IsIn w q numbers (index + m) b y)) (sym size) r;
        };
        line = line;
      };
    })

abbrev type_by : Option Y.DeclaredVariable → Option Y.LeafType
type_by o = type_of_first whole_part o

abbrev coded_by : Option Y.DeclaredVariable → Y.LeafType
coded_by o = (unwrap_or (slice_get (unwrap_or o no_declaration).leaves 0) no_leaf).type

pub number_target :
    (k : Setting) (x : Spot) (need : ℕ) → IsBegun k.block → IsNumber k.block x →
    k.around.program ≡ k.block.environment.program → IsTarget k need (whole x)
number_target k x need begun is same =
    record {
      meant = ap (λ p. type_by (declared_variable p (variable_of x))) same ∙ ap type_by is.declared;
      coded = ap coded_by is.declared;
      stores = number_stores k x begun is need;
    }
