-- A member that is assigned NULL: the code of it, and how NULL comes to wait in the words below the frame.
use Rattle.std.proofs.Common.{◌≡◌, ℕ, zero, suc, ◌+◌, ◌*◌, List, ◌++◌}
use Rattle.std.proofs.Common.{Some, true, refl, sym, ap, ◌∙◌, subst, arith}
use Rattle.std.specs.Prelude.{negsuc, ◌==◌}
use Rattle.pli_typing.specs.TypedTree as Y
use Rattle.pli_meaning.specs.BasicValues.{NullName}
use Rattle.pli_meaning.specs.DeclaredShapes.{declared_variable}
use Rattle.pli_coding.specs.Allocating.{act_code}
use Rattle.pli_coding.specs.Assembly.{Code, size_of}
use Rattle.pli_coding.specs.Environments.{Environment, none_taken, with_words}
use Rattle.pli_coding.specs.Expressions.{null_name, null_word}
use Rattle.pli_coding.specs.Locating.{place_behind, table_number}
use Rattle.pli_coding.specs.Registers.{zero_register}
use Rattle.pli_coding.specs.Statements.{stmt_code}
use Rattle.activation_relation.specs.Frames.{frame_under}
use Rattle.activation_relation.specs.Layers.{Point, services_of}
use Rattle.run_steps.specs.Bodies.{Known}
use Rattle.run_steps.proofs.Bodies.{store_piece, zero_is}
use Rattle.run_steps.specs.Items.{At, Linked}
use Rattle.run_steps.specs.Reach.{Family, Reach}
use Rattle.run_steps.proofs.Reach.{reach_map}
use Rattle.run_steps.specs.Temporaries.{nothing}
use Rattle.block_runs.specs.Machines.{AreIn}
use Rattle.block_runs.proofs.Places.{IsFrame}
use Rattle.block_runs.proofs.PointGrounds.{known_in}
use Rattle.program_runs.specs.Statements.{Block}
use Rattle.expression_runs.specs.Variables.{Spot, variable_of}
use Rattle.area_runs.specs.Based.{based_of, pointer_declared}
use Rattle.area_runs.proofs.BasedCode.{name_at_place}
use Rattle.locator_runs.proofs.FourParts.{PartGoes, four_go}
use Rattle.locator_runs.proofs.NameTests.{word_small}
use Rattle.locator_runs.proofs.NameWrites.{word_of}
use Rattle.member_runs.specs.NullMembers.{nulling}
use Rattle.member_runs.specs.Members.{IsMember, structure_declared}
use Rattle.member_runs.proofs.Links.{given_code}
use Rattle.member_runs.proofs.MemberCode.{found_code, found_coded}
use Rattle.member_runs.proofs.MemberReads.{more_ground}
use Rattle.member_runs.proofs.Waiting.{HasName, WordsTold, frame_in, one_more, word_place, word_stands, words_at}

-- ---- the code

abbrev pub nulls_code : Code
nulls_code = null_name (negsuc 15)

abbrev pub null_code : (at signature member : ℕ) → Code
null_code at signature member = nulls_code ++ (found_code at signature member ++ given_code)

pub null_coded :
    (e : Environment) (p n : Spot) (members : List Y.Member) (leaves : List Y.Leaf) (member signature line : ℕ) →
    IsMember leaves member Y.PointerLeaf →
    declared_variable e.program (variable_of p) ≡ Some pointer_declared → (p.level == e.level) ≡ true →
    declared_variable e.program (based_of n) ≡ Some (structure_declared members leaves) →
    table_number e (structure_declared members leaves) ≡ signature →
    stmt_code e none_taken (nulling p n member line)
    ≡ act_code line ++ null_code (name_at_place e p) signature member
null_coded e p n members leaves member signature line one pointer own based table =
    ap (λ u. act_code line ++ (nulls_code ++ (u ++ given_code)))
    (found_coded e (with_words 4 none_taken) p n members leaves member signature _ pointer based one.there refl table
    own)

-- ---- NULL in the words

null_word_is : (n : ℕ) → word_of NullName n ≡ 0
null_word_is zero = refl
null_word_is (suc zero) = refl
null_word_is (suc (suc zero)) = refl
null_word_is (suc (suc (suc n))) = refl

-- around NULL there
pub record IsNull {k : Block} {p : Point} {numbers : ℕ → ℕ} (z : HasName k p numbers) : Type 0 where
  pub is : z.name ≡ NullName

nulled_word :
    {k : Block} {p : Point} {numbers : ℕ → ℕ} (z : HasName k p numbers) → IsNull z →
    PartGoes k.call.surroundings.links k.call.code (services_of p)
    (λ n b u. Known (more_ground k.call.surroundings p (WordsTold n z.name (words_at k p)) (frame_in z))
    (services_of p) numbers (λ j. 0) nothing b u) (null_word (negsuc 15))
nulled_word {k} {p} {numbers} z null n c i f less l there =
    let w = k.call.surroundings in
    let h = frame_in z in
    let a = z.name in
    let at = words_at k p in
    let frame = frame_under w.parts p.control.layers in
    let same : frame ≡ z.layer.at = ap (λ ls. frame_under w.parts ls) z.free.newest in
    let high = h.high in
    let room = h.room in
    reach_map _
    (store_piece (more_ground w p (WordsTold (suc n) a at) h) (λ j. 0) c f zero_register
    (place_behind (4 * n) (negsuc 15)) (at + 4 * n) (λ b. word_of a n) (word_place frame h n less) (λ x v. refl)
    (λ b x u. zero_is u.body ∙ sym (ap (λ m. word_of m n) null.is ∙ null_word_is n)) (λ b. refl)
    (λ b m bytes u. (
      word_stands w p z.layer z.others (at + 4 * n) (word_of a n) b m z.among.stands (subst IsFrame same h) z.free
          (omega (arith, same)) (omega (arith, same, less, high)) bytes u.0,
      one_more n a at m (word_small a z.fits n) (omega (arith, room, bytes, high)) less u.1,
    ))
    (record { reserved_stay = λ x v. refl; known_stay = λ b x v u. u; set = λ x v. refl }) l there)
    (λ b x u. record {
      pc = u.pc;
      holds = record { body = u.holds.body; regs = tt };
    })

pub nulls_reach :
    {k : Block} {p : Point} {numbers : ℕ → ℕ} {i : ℕ} (z : HasName k p numbers) → IsNull z → (c : ℕ) (f : Family) →
    Linked k.call.surroundings.links k.call.code i nulls_code → AreIn k.call.surroundings p numbers i f →
    Reach k.call.code c f (services_of p) (c + size_of nulls_code) (services_of p)
    (λ b u. At b (i + size_of nulls_code)
    (Known (more_ground k.call.surroundings p (WordsTold 4 z.name (words_at k p)) (frame_in z))
    (services_of p) numbers (λ j. 0) nothing b) u)
nulls_reach {k} {p} {numbers} {i} z null c f l there =
    let h = frame_in z in
    four_go k.call.surroundings.links k.call.code (services_of p)
    (λ n b u. Known (more_ground k.call.surroundings p (WordsTold n z.name (words_at k p)) h)
    (services_of p) numbers (λ j. 0) nothing b u)
    (null_word (negsuc 15)) c i f (nulled_word z null) l
    (λ b. let s = known_in {t = λ j. 0} {rs = nothing} h (there b) tt in record {
      pc = s.pc;
      holds = record {
        body = record {
          services = s.holds.body.services;
          registers = s.holds.body.registers;
          bytes = s.holds.body.bytes;
          memory = (s.holds.body.memory, λ j less. absurd (omega (arith, less)));
        };
        regs = tt;
      };
    })
