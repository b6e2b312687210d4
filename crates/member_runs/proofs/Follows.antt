-- A POINTER variable of the running frame that is assigned what a member holds: the code of it, and what it means.
use Rattle.std.proofs.Common.{◌≡◌, ◌⊎◌, ℕ, suc, ◌+◌, ◌*◌, ◌%◌, ◌<◌, ◌≤◌, List, [], ◌++◌, length, Some}
use Rattle.std.proofs.Common.{true, refl, sym, ap, ◌∙◌, subst, arith}
use Rattle.std.specs.Prelude.{pos, ◌==◌}
use Rattle.rv_meaning.specs.Machine.{memory_size}
use Rattle.rv_meaning.specs.Memory.{load, store}
use Rattle.pli_typing.specs.Signatures.{LeafKind, Pointer}
use Rattle.pli_typing.specs.TypedTree as Y
use Rattle.pli_meaning.specs.BasicValues.{BasicPointer, Name}
use Rattle.pli_meaning.specs.Contents.{name_in, seen}
use Rattle.pli_meaning.specs.Control.{Meaning, Normal, flow_on, give, ◌>>=◌}
use Rattle.pli_meaning.specs.DeclaredShapes.{declared_variable}
use Rattle.pli_meaning.specs.Evaluating as V
use Rattle.pli_meaning.specs.Executing as M
use Rattle.pli_meaning.specs.Raising.{Around}
use Rattle.pli_coding.specs.Allocating.{act_code}
use Rattle.pli_coding.specs.Assembly.{Code, size_of}
use Rattle.pli_coding.specs.Environments.{Environment, none_taken}
use Rattle.pli_coding.specs.Instructions.{load_word, store_word}
use Rattle.pli_coding.specs.Locating.{Address, in_own_frame, name_copied, table_number, word_copied}
use Rattle.pli_coding.specs.Registers.{frame_register, u1, u3}
use Rattle.pli_coding.specs.Statements.{stmt_code}
use Rattle.pli_coding.specs.Storing.{name_assigned}
use Rattle.storage_relation.specs.Served.{place_now}
use Rattle.storage_relation.specs.Stored.{Beside}
use Rattle.storage_relation.specs.Telling.{Tells}
use Rattle.storage_relation.proofs.NameWords.{name_words}
use Rattle.activation_relation.specs.Frames.{frame_under, upper_top}
use Rattle.activation_relation.specs.Layers.{Point, now, services_of}
use Rattle.activation_relation.specs.Points.{Surroundings}
use Rattle.run_steps.specs.Bodies.{Ground, Known}
use Rattle.run_steps.proofs.Bodies.{store_piece}
use Rattle.run_steps.specs.Engine.{Base}
use Rattle.run_steps.specs.Items.{Linked}
use Rattle.run_steps.proofs.Jumps.{back_of, front_of}
use Rattle.run_steps.proofs.Linking.{size_append}
use Rattle.run_steps.proofs.Numbers.{above_small, above_sum}
use Rattle.run_steps.specs.Reach.{Family, Reach, reached}
use Rattle.run_steps.proofs.Reach.{reach_map, reach_then, reached_holds}
use Rattle.run_steps.proofs.Reaching.{reach_moved}
use Rattle.run_steps.specs.Temporaries.{nothing}
use Rattle.block_runs.specs.Machines.{AreIn, IsIn}
use Rattle.block_runs.proofs.Places.{IsFrame, ground_at}
use Rattle.block_runs.proofs.PointGrounds.{StandsIn, in_known, point_frame}
use Rattle.program_runs.specs.Statements.{Block, IsAmong}
use Rattle.expression_runs.specs.Variables.{Spot, variable_of, whole}
use Rattle.area_runs.specs.Based.{based_of, pointer_declared}
use Rattle.area_runs.proofs.AllocationMeaning.{pointed_state}
use Rattle.area_runs.proofs.BasedCode.{name_at_place}
use Rattle.area_runs.proofs.BasedMeaning.{Points}
use Rattle.locator_runs.specs.Pointers.{IsPointer}
use Rattle.locator_runs.proofs.FourParts.{PartGoes, four_go}
use Rattle.locator_runs.proofs.NameWrites.{name_written, word_of, word_stays, word_told, written}
use Rattle.locator_runs.proofs.PointerCode.{own_placed}
use Rattle.locator_runs.proofs.PointerMeaning.{put_is, putting}
use Rattle.locator_runs.proofs.PointerPoints.{PointerAt, pointed, pointed_services, pointed_stands, pointer_inside}
use Rattle.locator_runs.proofs.PointerPoints.{pointer_place}
use Rattle.locator_runs.proofs.PointerWrites.{place_in}
use Rattle.member_runs.specs.MemberPointers.{following}
use Rattle.member_runs.specs.Members.{IsMember, IsStructure, member_of, structure_declared}
use Rattle.member_runs.proofs.BasePlaces.{WordFrom, load_at}
use Rattle.member_runs.proofs.MemberCode.{found_code, found_coded}
use Rattle.member_runs.proofs.MemberMeaning.{part_found, seen_is, through_is}
use Rattle.member_runs.proofs.MemberPoints.{StructureAt, member_place}
use Rattle.member_runs.proofs.MemberReads.{NoMore, found_regs, known_more, living_found}
use Rattle.member_runs.proofs.NameWords.{NameIn, member_apart}

-- ---- the code

abbrev pub found_address : Address
found_address = record { register = u3; displacement = pos 0 }

abbrev pub taken_code : (place : ℕ) → Code
taken_code place = name_copied found_address (in_own_frame (pos place))

abbrev pub follow_code : (from signature member to : ℕ) → Code
follow_code from signature member to = found_code from signature member ++ taken_code to

pub follow_coded :
    (e : Environment) (x p n : Spot) (members : List Y.Member) (leaves : List Y.Leaf) (member signature line : ℕ) →
    IsMember leaves member Y.PointerLeaf →
    declared_variable e.program (variable_of x) ≡ Some pointer_declared → (x.level == e.level) ≡ true →
    declared_variable e.program (variable_of p) ≡ Some pointer_declared → (p.level == e.level) ≡ true →
    declared_variable e.program (based_of n) ≡ Some (structure_declared members leaves) →
    table_number e (structure_declared members leaves) ≡ signature →
    stmt_code e none_taken (following x p n member line)
    ≡ act_code line ++ follow_code (name_at_place e p) signature member (name_at_place e x)
follow_coded e x p n members leaves member signature line one declared own pointer own' based table =
    ap (λ o. act_code line ++ name_assigned e none_taken (whole x) (Y.PointerIn (member_of p n member)) o)
    (own_placed e x declared own)
    ∙ ap (λ u. act_code line ++ (u ++ taken_code (name_at_place e x)))
    (found_coded e none_taken p n members leaves member signature _ pointer based one.there refl table own')

-- ---- what it means

pub follow_put :
    {x : Spot} {p : Point} {y : Spot} {members : List Y.Member} {leaves : List Y.Leaf} {member : ℕ}
    (around : Around) (k : ℕ) (n : Spot) (h : Points p.state x) (g : Points p.state y)
    (s : StructureAt p g.name members leaves) → IsMember leaves member Y.PointerLeaf → (a : NameIn s member) →
    declared_variable around.program (based_of n) ≡ Some (structure_declared members leaves) →
    putting around x (Y.PointerIn (member_of y n member)) k p.state ≡ Normal tt (pointed_state p.state h a.held)
unfolding V.stored_value V.pointer ◌>>=◌ give
follow_put {x} {p} {y} {members} {leaves} {member} around k n h g s one a declared =
    let name : V.Designated → Meaning Name = λ d. give (name_in (V.value_in d)) in
    let kind = seen_is members g.name s.extent s.values one in
    ap (λ q. flow_on k (flow_on k (flow_on k q name) (λ u. give (BasicPointer u))) (λ v. M.assigned around (whole x) v))
    (through_is around n members leaves member k g declared
    ∙ part_found around p.state g.name members s.extent s.values k one s.named)
    ∙ ap (λ (q : LeafKind). M.assigned around (whole x) (BasicPointer (name_in (seen q (s.values member [])))) k
    p.state)
    kind
    ∙ ap (λ v. M.assigned around (whole x) (BasicPointer (name_in v)) k p.state) a.value
    ∙ put_is around k a.held h

-- ---- memory meanwhile

-- so many words are written over what stood there at the point, where the member was found
pub record Taken (w : Surroundings) (p : Point) (name : Name) (place : ℕ) (a : Name) (target n : ℕ) (at : Base → ℕ)
    (b : Base) (m : List ℕ) : Type 0 where
  pub before : List ℕ
  pub bytes : length before ≡ memory_size
  pub stands : StandsIn w p b before
  pub here : place_now (now p before) name + place ≡ at b
  pub is : m ≡ written n a target before

abbrev pub taken_ground :
    (w : Surroundings) (p : Point) → IsFrame (frame_under w.parts p.control.layers) → (name : Name) (place : ℕ)
    (a : Name) (target n : ℕ) → (Base → ℕ) → Ground
taken_ground w p h name place a target n at =
    ground_at (frame_under w.parts p.control.layers) (upper_top w.parts p.control.layers) h
    (λ b m. Taken w p name place a target n at b m)

-- a word of what was found
pub word_from : (b : Base) (at n : ℕ) → at % 4 ≡ 0 → at + 16 ≤ memory_size → n < 4 →
    WordFrom b at (pos (0 + 4 * n)) (at + 4 * n)
word_from b at n even inside less =
    record {
      sums = above_sum b.at at (0 + 4 * n) b.valid.1 (omega (arith, inside, less)) ∙ omega arith;
      aligned = omega (arith, even);
      inside = omega (arith, inside, less);
    }

taken_word :
    {k : Block} {x : Spot} {members : List Y.Member} {leaves : List Y.Leaf} {member : ℕ} {numbers : ℕ → ℕ} {p : Point}
    {name : Name} (is : IsPointer k x) (o : IsAmong k numbers p) (t : PointerAt k x is p)
    (s : StructureAt p name members leaves) → IsMember leaves member Y.PointerLeaf → (a : NameIn s member)
    (at : Base → ℕ) → ((b : Base) → at b % 4 ≡ 0) → ((b : Base) → at b + 16 ≤ memory_size) →
    PartGoes k.call.surroundings.links k.call.code (services_of p)
    (λ n b z. Known (taken_ground k.call.surroundings p (point_frame o.stands o.image) name (member_place leaves member)
    a.held (pointer_place is) n at) (services_of p) numbers (λ j. 0) (found_regs at) b z)
    (word_copied found_address (in_own_frame (pos (name_at_place k.environment x))))
taken_word {k} {x} {members} {leaves} {member} {numbers} {p} {name} is o t s one a at even inside n c i f less l there =
    let w = k.call.surroundings in
    let h = point_frame o.stands o.image in
    let place = member_place leaves member in
    let target = pointer_place is in
    let first = load_word u1 u3 (pos (0 + 4 * n)) in
    let last = store_word frame_register u1 (pos (name_at_place k.environment x + 4 * n)) in
    let n1 = size_append first last in
    let r1 = load_at {g = taken_ground w p h name place a.held target n at} {rs = found_regs at} c f u1 u3
    (pos (0 + 4 * n)) at (λ b. at b + 4 * n) (λ b. word_of a.held n) (above_small (0 + 4 * n) (omega (arith, less)))
    (λ b. word_from b (at b) n (even b) (inside b) less) (λ b. let i' = inside b in omega (arith, i')) (λ y u. refl)
    (λ b y u. u.regs.0)
    (λ b m u.
    let told = subst (λ j. Tells Pointer (BasicPointer a.held) j u.before) u.here (a.tells u.before u.stands.storage) in
    ap (λ v. load 4 v (at b + 4 * n)) u.is
    ∙ word_stays n n a.held target (at b) u.before (omega arith) less
    (subst (λ j. (target ≡ j) ⊎ Beside target 16 j 16) u.here (member_apart t s one u.before u.stands.storage))
    ∙ word_told a.held (at b) u.before (name_words a.held (at b) u.before told) n less)
    (record { reserved_stay = λ z v. refl; known_stay = λ b z v u. u; set = λ z v. refl })
    (record { reserved_stay = λ z v. refl; known_stay = λ b z v u. u; set = λ z v. refl })
    (front_of first last l) there in
    let r2 = store_piece (taken_ground w p h name place a.held target (suc n) at) (λ j. 0) (c + size_of first)
    (reached r1) u1 (pos (name_at_place k.environment x + 4 * n)) (target + 4 * n) (λ b. word_of a.held n)
    (place_in is o t.even n less) (λ y u. refl) (λ b y u. u.regs.0) (λ b. refl)
    (λ b m bytes u. record {
      before = u.before;
      bytes = u.bytes;
      stands = u.stands;
      here = u.here;
      is = ap (λ v. store 4 v (target + 4 * n) (word_of a.held n)) u.is;
    })
    (record { reserved_stay = λ z v. refl; known_stay = λ b z v u. u; set = λ z v. refl })
    (back_of first last l) (reached_holds r1) in
    reach_map _ (reach_moved (omega (arith, n1)) (omega (arith, n1)) (reach_then r1 r2)) (λ b y u. record {
      pc = u.pc;
      holds = record { body = u.holds.body; regs = u.holds.regs.1 };
    })

-- from where the statement's act is made to the point behind
pub follow_reaches :
    {k : Block} {x y n : Spot} {members : List Y.Member} {leaves : List Y.Leaf} {member : ℕ} {numbers : ℕ → ℕ}
    {p : Point} {i : ℕ} (js : IsPointer k x) (is : IsStructure k y n members leaves)
    (one : IsMember leaves member Y.PointerLeaf) (o : IsAmong k numbers p) (t : PointerAt k x js p)
    (u : PointerAt k y is.pointer p) (s : StructureAt p u.points.name members leaves) (a : NameIn s member) (c : ℕ)
    (f : Family) →
    Linked k.call.surroundings.links k.call.code i
    (follow_code (name_at_place k.environment y) is.signature member (name_at_place k.environment x)) →
    AreIn k.call.surroundings p numbers i f →
    Reach k.call.code c f (services_of p)
    (c + size_of (follow_code (name_at_place k.environment y) is.signature member (name_at_place k.environment x)))
    (services_of (pointed p t.points a.held))
    (λ b z. IsIn k.call.surroundings (pointed p t.points a.held) numbers
    (i + size_of (follow_code (name_at_place k.environment y) is.signature member (name_at_place k.environment x))) b z)
follow_reaches {k} {x} {y} {n} {members} {leaves} {member} {numbers} {p} {i} js is one o t u s a c f l there =
    let w = k.call.surroundings in
    let v = services_of p in
    let h = point_frame o.stands o.image in
    let place = member_place leaves member in
    let target = pointer_place js in
    let finds = found_code (name_at_place k.environment y) is.signature member in
    let takes = taken_code (name_at_place k.environment x) in
    let all = follow_code (name_at_place k.environment y) is.signature member (name_at_place k.environment x) in
    let n1 = size_append finds takes in
    let q = pointed p t.points a.held in
    let same = pointed_services p t.points a.held in
    let found = living_found {numbers = numbers} NoMore is one o u s h c f (omega arith) (front_of finds takes l)
    (known_more k h f there) in
    let r1 = found.reach in
    let r2 = four_go w.links k.call.code v
    (λ j b z. Known (taken_ground w p h u.points.name place a.held target j found.at) v numbers (λ j'. 0)
    (found_regs found.at) b z)
    (word_copied found_address (in_own_frame (pos (name_at_place k.environment x)))) (c + size_of finds)
    (i + size_of finds) (reached r1) (taken_word js o t s one a found.at found.even found.inside)
    (back_of finds takes l)
    (λ b. let z = reached_holds r1 b in record {
      pc = z.pc;
      holds = record {
        body = record {
          services = z.holds.body.services;
          registers = z.holds.body.registers;
          bytes = z.holds.body.bytes;
          memory = record {
            before = (reached r1 b).machine.memory;
            bytes = z.holds.body.bytes;
            stands = z.holds.body.memory.0;
            here = z.holds.body.memory.1;
            is = refl;
          };
        };
        regs = z.holds.regs;
      };
    }) in
    let r = reach_moved {c'' = c + size_of all} {i'' = i + size_of all} (omega (arith, n1)) (omega (arith, n1))
    (reach_then r1 r2) in
    subst (λ v'. Reach k.call.code c f v (c + size_of all) v' (λ b z. IsIn w q numbers (i + size_of all) b z)) (sym
    same)
    (reach_map _ r (λ b z e.
    let m = e.holds.body.memory in
    let inside = pointer_inside t m.before m.stands.storage in
    in_known {t = λ j. 0} {rs = nothing} h o.image.parts
    (record {
      pc = e.pc;
      holds = record {
        body = record {
          services = e.holds.body.services ∙ sym same;
          registers = e.holds.body.registers;
          bytes = e.holds.body.bytes;
          memory = subst (StandsIn w q b) (name_written a.held target m.before inside ∙ sym m.is)
              (pointed_stands w t a.held b m.before a.fits o.stands m.stands);
        };
        regs = tt;
      };
    })))
