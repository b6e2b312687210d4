-- A member that is assigned what a POINTER variable holds: the code of it, and how the name goes where the member
-- stands.
use Rattle.std.proofs.Common.{◌≡◌, inl, inr, ℕ, suc, ◌+◌, ◌*◌, ◌%◌, ◌≤◌, List, ◌∷◌, ◌++◌, length}
use Rattle.std.proofs.Common.{Some, true, refl, sym, ap, ◌∙◌, subst, arith, ⊎_elim}
use Rattle.std.specs.Prelude.{cond, negsuc, pos, ◌==◌}
use Rattle.rv_meaning.specs.Machine.{memory_size}
use Rattle.rv_meaning.specs.Memory.{load, store}
use Rattle.pli_typing.specs.TypedTree as Y
use Rattle.pli_meaning.specs.BasicValues.{BasicPointer, Name}
use Rattle.pli_meaning.specs.DeclaredShapes.{declared_variable}
use Rattle.pli_coding.specs.Allocating.{act_code}
use Rattle.pli_coding.specs.Assembly.{Code, size_of}
use Rattle.pli_coding.specs.Environments.{Environment, none_taken, with_words}
use Rattle.pli_coding.specs.Instructions.{load_word, store_word}
use Rattle.pli_coding.specs.Locating.{name_copied, place_behind, table_number, word_copied}
use Rattle.pli_coding.specs.Registers.{frame_register, u1, u3}
use Rattle.pli_coding.specs.Statements.{stmt_code}
use Rattle.pli_coding.specs.Storing.{name_stored}
use Rattle.storage_relation.specs.Keeping.{StoresName}
use Rattle.storage_relation.specs.Served.{place_now}
use Rattle.storage_relation.specs.Stored.{Beside}
use Rattle.activation_relation.specs.Frames.{frame_under, upper_top}
use Rattle.activation_relation.specs.Layers.{Point, now, services_of}
use Rattle.activation_relation.specs.Points.{Surroundings}
use Rattle.run_steps.specs.Bodies.{Ground, Known}
use Rattle.run_steps.proofs.Bodies.{load_piece}
use Rattle.run_steps.specs.Engine.{Base}
use Rattle.run_steps.specs.Items.{At, Linked}
use Rattle.run_steps.proofs.Jumps.{back_of, front_of}
use Rattle.run_steps.proofs.Linking.{size_append}
use Rattle.run_steps.proofs.Numbers.{above_small}
use Rattle.run_steps.specs.Reach.{Family, Reach, reached}
use Rattle.run_steps.proofs.Reach.{reach_map, reach_then, reached_holds}
use Rattle.run_steps.proofs.Reaching.{reach_moved}
use Rattle.run_steps.specs.Temporaries.{nothing}
use Rattle.block_runs.specs.Machines.{IsIn}
use Rattle.block_runs.proofs.Places.{IsFrame, ground_at}
use Rattle.block_runs.proofs.PointGrounds.{StandsIn, in_known}
use Rattle.program_runs.specs.Statements.{Block}
use Rattle.expression_runs.specs.Variables.{Spot, variable_of}
use Rattle.area_runs.specs.Based.{based_of, pointer_declared}
use Rattle.area_runs.proofs.BasedCode.{name_at_place}
use Rattle.locator_runs.proofs.FourParts.{PartGoes, four_go}
use Rattle.locator_runs.proofs.NameWrites.{name_written, word_of, word_stays, written}
use Rattle.locator_runs.proofs.PointerCode.{address_from, found_by, reached_from}
use Rattle.locator_runs.proofs.PointerPoints.{PointerAt, name_length}
use Rattle.member_runs.specs.MemberPointers.{linking}
use Rattle.member_runs.specs.Members.{IsMember, IsStructure, member_of, structure_declared}
use Rattle.member_runs.proofs.BasePlaces.{store_at}
use Rattle.member_runs.proofs.Follows.{found_address, word_from}
use Rattle.member_runs.proofs.MemberCode.{found_code, found_coded}
use Rattle.member_runs.proofs.MemberPoints.{StructureAt, member_place, member_told, member_within}
use Rattle.member_runs.proofs.MemberPuts.{behind_put, place_low, put_services, put_stands, structure_held}
use Rattle.member_runs.proofs.MemberReads.{found_regs, living_found, more_ground}
use Rattle.member_runs.proofs.Waiting.{HasName, WordsTold, frame_in, waiting_address, waits_code, word_place}
use Rattle.member_runs.proofs.Waiting.{words_at, words_clear}

-- ---- the code

abbrev pub given_code : Code
given_code = name_copied waiting_address found_address

abbrev pub link_code : (from at signature member : ℕ) → Code
link_code from at signature member = waits_code from ++ (found_code at signature member ++ given_code)

pub link_coded :
    (e : Environment) (p n y : Spot) (members : List Y.Member) (leaves : List Y.Leaf) (member signature line : ℕ) →
    IsMember leaves member Y.PointerLeaf →
    declared_variable e.program (variable_of y) ≡ Some pointer_declared → (y.level == e.level) ≡ true →
    declared_variable e.program (variable_of p) ≡ Some pointer_declared → (p.level == e.level) ≡ true →
    declared_variable e.program (based_of n) ≡ Some (structure_declared members leaves) →
    table_number e (structure_declared members leaves) ≡ signature →
    stmt_code e none_taken (linking p n member y line)
    ≡ act_code line ++ link_code (name_at_place e y) (name_at_place e p) signature member
link_coded e p n y members leaves member signature line one declared own pointer own' based table =
    let stores = name_stored e none_taken (member_of p n member) in
    ap (λ o. act_code line
    ++ ((reached_from e none_taken y o ++ name_copied (address_from e y o) waiting_address) ++ stores)) declared
    ∙ ap (λ q. act_code line
    ++ ((found_by e y q
    ++ name_copied (record { register = cond q frame_register u3; displacement = pos (name_at_place e y) })
    waiting_address)
    ++ stores)) own
    ∙ ap (λ u. act_code line ++ (waits_code (name_at_place e y) ++ (u ++ given_code)))
    (found_coded e (with_words 4 none_taken) p n members leaves member signature _ pointer based one.there refl table
    own')

-- ---- memory meanwhile

-- so many words are written where the member was found, over what stood there at the point; the name waits
pub record Given (w : Surroundings) (p : Point) (name : Name) (place : ℕ) (a : Name) (from n : ℕ) (at : Base → ℕ)
    (b : Base) (m : List ℕ) : Type 0 where
  pub before : List ℕ
  pub bytes : length before ≡ memory_size
  pub stands : StandsIn w p b before
  pub here : place_now (now p before) name + place ≡ at b
  pub told : WordsTold 4 a from before
  pub is : m ≡ written n a (at b) before

abbrev pub given_ground :
    (w : Surroundings) (p : Point) → IsFrame (frame_under w.parts p.control.layers) → (name : Name) (place : ℕ)
    (a : Name) (from n : ℕ) → (Base → ℕ) → Ground
given_ground w p h name place a from n at =
    ground_at (frame_under w.parts p.control.layers) (upper_top w.parts p.control.layers) h
    (λ b m. Given w p name place a from n at b m)

-- the words of the frame lie beside what was found
found_apart :
    {k : Block} {members : List Y.Member} {leaves : List Y.Leaf} {member : ℕ} {numbers : ℕ → ℕ} {p : Point}
    {name : Name} (z : HasName k p numbers) (s : StructureAt p name members leaves) →
    IsMember leaves member Y.PointerLeaf → (b : Base) (m : List ℕ) → StandsIn k.call.surroundings p b m →
    Beside (place_now (now p m) name + member_place leaves member) 16 (words_at k p) 16
found_apart {k} {members = members} {leaves} {member} {p = p} {name} z s one b m stands =
    let w = k.call.surroundings in
    let h = frame_in z in
    let same : frame_under w.parts p.control.layers ≡ z.layer.at = ap (λ ls. frame_under w.parts ls) z.free.newest in
    let high = h.high in
    let clear = words_clear w p z.layer z.others z.among.stands z.free (omega (arith, same, high)) in
    let owner = structure_held s m stands.storage in
    let within = member_within members s.extent s.values one in
    let from = owner.from in
    let to = owner.to in
    let result : Beside (place_now (now p m) name + member_place leaves member) 16 (words_at k p) 16 =
    ⊎_elim (λ before. inl (omega (arith, before, to, within, same))) (λ behind. inr (omega (arith, behind, from, same)))
    (clear.0 owner.serial owner.holder owner.holds) in
    result

given_word :
    {k : Block} {members : List Y.Member} {leaves : List Y.Leaf} {member : ℕ} {numbers : ℕ → ℕ} {p : Point}
    {name : Name} (z : HasName k p numbers) (s : StructureAt p name members leaves) →
    IsMember leaves member Y.PointerLeaf → (at : Base → ℕ) → ((b : Base) → at b % 4 ≡ 0) →
    ((b : Base) → at b + 16 ≤ memory_size) → ((b : Base) → 4 * length k.call.code ≤ at b) →
    PartGoes k.call.surroundings.links k.call.code (services_of p)
    (λ n b u. Known (given_ground k.call.surroundings p (frame_in z) name (member_place leaves member)
    z.name (words_at k p) n at) (services_of p) numbers (λ j. 0) (found_regs at) b u)
    (word_copied waiting_address found_address)
given_word {k} {members} {leaves} {member} {numbers} {p} {name} z s one at even inside low n c i f less l there =
    let w = k.call.surroundings in
    let h = frame_in z in
    let a = z.name in
    let from = words_at k p in
    let place = member_place leaves member in
    let frame = frame_under w.parts p.control.layers in
    let first = load_word u1 frame_register (place_behind (4 * n) (negsuc 15)) in
    let last = store_word u3 u1 (pos (0 + 4 * n)) in
    let n1 = size_append first last in
    let r1 = load_piece {g = given_ground w p h name place a from n at} {rs = found_regs at} c f u1
    (place_behind (4 * n) (negsuc 15)) (from + 4 * n) (λ b. word_of a n) (word_place frame h n less)
    (λ b m u.
    ap (λ v. load 4 v (from + 4 * n)) u.is
    ∙ word_stays n n a (at b) from u.before (omega arith) less
    (inr (subst (λ j. Beside j 16 from 16) u.here (found_apart z s one b u.before u.stands)))
    ∙ u.told n less)
    (record { reserved_stay = λ x v. refl; known_stay = λ b x v u. u; set = λ x v. refl })
    (record { reserved_stay = λ x v. refl; known_stay = λ b x v u. u; set = λ x v. refl })
    (front_of first last l) there in
    let r2 = store_at (given_ground w p h name place a from (suc n) at) {rs = λ b. (6, word_of a n) ∷ found_regs at b}
    (c + size_of first) (reached r1) u1 u3 (pos (0 + 4 * n)) at (λ b. at b + 4 * n) (λ b. word_of a n)
    (above_small (0 + 4 * n) (omega (arith, less))) (λ b. word_from b (at b) n (even b) (inside b) less)
    (λ b. let low' = low b in omega (arith, low')) (λ b. let i' = inside b in omega (arith, i')) (λ x v. refl)
    (λ b x u. u.regs.1.0) (λ x v. refl) (λ b x u. u.regs.0) (λ b. refl)
    (λ b m bytes u. record {
      before = u.before;
      bytes = u.bytes;
      stands = u.stands;
      here = u.here;
      told = u.told;
      is = ap (λ v. store 4 v (at b + 4 * n) (word_of a n)) u.is;
    })
    (record { reserved_stay = λ x v. refl; known_stay = λ b x v u. u; set = λ x v. refl })
    (back_of first last l) (reached_holds r1) in
    reach_map _ (reach_moved (omega (arith, n1)) (omega (arith, n1)) (reach_then r1 r2)) (λ b x u. record {
      pc = u.pc;
      holds = record { body = u.holds.body; regs = u.holds.regs.1 };
    })

-- from where the name waits to the point behind
pub given_reaches :
    {k : Block} {x n : Spot} {members : List Y.Member} {leaves : List Y.Leaf} {member : ℕ} {numbers : ℕ → ℕ}
    {p : Point} {i : ℕ} (is : IsStructure k x n members leaves) (one : IsMember leaves member Y.PointerLeaf)
    (z : HasName k p numbers) (t : PointerAt k x is.pointer p) (s : StructureAt p t.points.name members leaves)
    (c : ℕ) (f : Family) →
    Linked k.call.surroundings.links k.call.code i
    (found_code (name_at_place k.environment x) is.signature member ++ given_code) →
    ((b : Base) →
    At b i (Known (more_ground k.call.surroundings p (WordsTold 4 z.name (words_at k p)) (frame_in z))
    (services_of p) numbers (λ j. 0) nothing b) (f b)) →
    Reach k.call.code c f (services_of p)
    (c + size_of (found_code (name_at_place k.environment x) is.signature member ++ given_code))
    (services_of (behind_put s member (BasicPointer z.name)))
    (λ b u. IsIn k.call.surroundings (behind_put s member (BasicPointer z.name)) numbers
    (i + size_of (found_code (name_at_place k.environment x) is.signature member ++ given_code)) b u)
given_reaches {k} {x} {n} {members} {leaves} {member} {numbers} {p} {i} is one z t s c f l there =
    let w = k.call.surroundings in
    let v = services_of p in
    let o = z.among in
    let h = frame_in z in
    let a = z.name in
    let from = words_at k p in
    let place = member_place leaves member in
    let finds = found_code (name_at_place k.environment x) is.signature member in
    let all = finds ++ given_code in
    let n1 = size_append finds given_code in
    let q = behind_put s member (BasicPointer a) in
    let same = put_services s member (BasicPointer a) in
    let found = living_found {numbers = numbers} (WordsTold 4 a from) is one o t s h c f (omega arith)
    (front_of finds given_code l) there in
    let r1 = found.reach in
    let at = found.at in
    let remains = o.later.remains.low in
    let low' = is.low in
    let low : (b : Base) → 4 * length k.call.code ≤ at b = λ b.
    let u = (reached_holds r1 b).holds.body.memory in
    let here = u.1 in
    let behind' = place_low s (reached r1 b).machine.memory u.0.storage in
    omega (arith, here, behind', remains, low') in
    let r2 = four_go w.links k.call.code v
    (λ j b u. Known (given_ground w p h t.points.name place a from j at) v numbers (λ j'. 0) (found_regs at) b u)
    (word_copied waiting_address found_address) (c + size_of finds) (i + size_of finds) (reached r1)
    (given_word z s one at found.even found.inside low) (back_of finds given_code l)
    (λ b. let u = reached_holds r1 b in record {
      pc = u.pc;
      holds = record {
        body = record {
          services = u.holds.body.services;
          registers = u.holds.body.registers;
          bytes = u.holds.body.bytes;
          memory = record {
            before = (reached r1 b).machine.memory;
            bytes = u.holds.body.bytes;
            stands = u.holds.body.memory.0;
            here = u.holds.body.memory.1;
            told = u.holds.body.memory.2;
            is = refl;
          };
        };
        regs = u.holds.regs;
      };
    }) in
    let r = reach_moved {c'' = c + size_of all} {i'' = i + size_of all} (omega (arith, n1)) (omega (arith, n1))
    (reach_then r1 r2) in
    let long = name_length a in
    subst (λ v'. Reach k.call.code c f v (c + size_of all) v' (λ b u. IsIn w q numbers (i + size_of all) b u)) (sym
    same)
    (reach_map _ r (λ b u e.
    let m = e.holds.body.memory in
    let there' = member_told s one m.before m.stands.storage in
    let room = there'.inside in
    let put = put_stands w s one (BasicPointer a) b m.before (StoresName a z.fits) (omega (arith, long)) o.stands
    m.stands in
    in_known {t = λ j. 0} {rs = nothing} h o.image.parts
    (record {
      pc = e.pc;
      holds = record {
        body = record {
          services = e.holds.body.services ∙ sym same;
          registers = e.holds.body.registers;
          bytes = e.holds.body.bytes;
          memory = subst (StandsIn w q b)
              (name_written a (place_now (now p m.before) t.points.name + place) m.before room
              ∙ ap (λ j. written 4 a j m.before) m.here ∙ sym m.is) put;
        };
        regs = tt;
      };
    })))
