-- The statements that are proved so far: each list of them does what it means, where the constant bytes that its code names stand in
-- memory.
use Rattle.std.proofs.Common.{◌∷◌, ◌≡◌, ℕ, suc, ◌+◌, ◌-◌, ◌*◌, ◌^◌, ◌<◌, ◌≤◌, List, [], ◌++◌, None, Some, inl, inr}
use Rattle.std.proofs.Common.{Bool, true, false, refl, sym, ap, ◌∙◌, subst, arith, append-nil, length, lit<}
use Rattle.std.specs.Prelude.{max, ◌==◌}
use Rattle.std.proofs.Math.Nat.{le-max_left, le-max_right}
use Rattle.rv_meaning.specs.declared.instr.Instr.{Instr}
use Rattle.pli_language.specs.declared.condition.Condition.{Condition}
use Rattle.pli_language.specs.declared.condition.Condition.TheVariants as C
use Rattle.pli_typing.specs.TypedTree as Y
use Rattle.pli_meaning.specs.Control.{Label}
use Rattle.pli_meaning.specs.Codes.{code_signalled, endfile_code}
use Rattle.pli_meaning.specs.Raising.{Around, at_line}
use Rattle.pli_meaning.specs.Executing as M
use Rattle.pli_meaning.specs.Executing.{labels_in}
use Rattle.pli_coding.specs.Environments.{BlockOwner, BlockPlace, Environment, Taken, in_frame, Owner, owned_by}
use Rattle.pli_coding.specs.Frames.{fixed_size, frame_end, temporary_bytes}
use Rattle.pli_meaning.specs.StorageState.{most_activations}
use Rattle.pli_coding.specs.Statements.{owner_of_unit, unit_environment, before_turns, in_turns, stmt_takes}
use Rattle.pli_coding.specs.Statements.{stmts_take, stmt_code, stmts_code}
use Rattle.pli_coding.specs.Images.{place_of_head, place_of_unit, blocks_in, blocks_among}
use Rattle.pli_coding.specs.Linking.{Links}
use Rattle.temporary_bounds.specs.Spare.{spare}
use Rattle.temporary_bounds.proofs.TakesMore.{number_grows}
use Rattle.temporary_bounds.proofs.TakesNeeds.{number_needs, text_needs, bit_needs, reference_needs, stored_needs}
use Rattle.temporary_bounds.proofs.StatementNeeds.{number_if_needs, bit_if_needs, value_needs}
use Rattle.pli_headline.specs.ProvedSoFar.{Names, names_in, types_in, unit_declares, IsShallow, ArePlain, bytes_of}
use Rattle.pli_headline.specs.ProvedSoFar.{bytes_in, inner_bytes, Types, OuterBlock, main_labels, main_outer}
use Rattle.pli_headline.specs.ProvedSoFar.{IsProvedStatement, AreProvedStatements, JumpsAround, AllJumpAround}
use Rattle.pli_headline.specs.ProvedSoFar.{is_number, CallsAmong, AllCallAmong}
use Rattle.pli_headline.specs.EndUnits.{HasUnitFor, main_catches_end}
use Rattle.pli_meaning.specs.DeclaredShapes.{variables_of_block}
use Rattle.pli_headline.proofs.Statements.{owner_level, IsOwned, known_in, Standing, Block, Does, EachDoes}
use Rattle.pli_headline.proofs.Statements.{null_does, IsEndMarkedOnce}
use Rattle.pli_headline.proofs.Ifs.{if_does, if_else_does}
use Rattle.pli_headline.proofs.Catching.{within, listed}
use Rattle.pli_headline.proofs.InnerLevels.{IsAmong, among_front, among_back}
use Rattle.pli_headline.proofs.TakenRooms.{behind_number, record_grows, put_room, get_room}
use Rattle.pli_headline.specs.InnerWords.{body_words, inner_words, all_inner_words}
use Rattle.pli_headline.proofs.InnerFrames.{Inner, other_level, inner_block}
use Rattle.pli_headline.proofs.BeginMeant.{Entering, inner_around, inner_entering}
use Rattle.pli_headline.proofs.Begins.{inner_of, begin_does}
use Rattle.pli_headline.proofs.Declares.{made_block}
use Rattle.pli_headline.proofs.DeclaredBegins.{is_made, made_constants, inner_makes, made_filled, declares_does}
use Rattle.pli_headline.proofs.StandingBytes.{ConstantsStand, constants_moved}
use Rattle.pli_headline.proofs.Scalars.{Values}
use Rattle.pli_headline.proofs.JumpsOut.{out_does}
use Rattle.pli_headline.proofs.Returns.{return_does}
use Rattle.pli_headline.proofs.HomeReturns.{IsHome, home_does}
use Rattle.pli_headline.proofs.MainOutlets.{HasMain, more_main}
use Rattle.pli_headline.proofs.Narrowing.{Narrows, narrows_in, narrowed, narrowed_has}
use Rattle.pli_headline.proofs.Through.{through_does, through_raises, standing_narrowed}
use Rattle.pli_headline.proofs.Gotos.{LabelsStand, goto_does}
use Rattle.pli_headline.proofs.Groups.{do_does}
use Rattle.pli_headline.proofs.Loops.{while_does}
use Rattle.pli_headline.proofs.Stops.{stop_does}
use Rattle.pli_headline.proofs.Skips.{put_skip_does}
use Rattle.pli_headline.proofs.Signals.{signal_does}
use Rattle.pli_headline.proofs.SystemUnits.{on_system_does, revert_does}
use Rattle.pli_headline.proofs.OnUnits.{on_unit_does}
use Rattle.pli_headline.proofs.Entered.{Frames, NoUnit}
use Rattle.pli_headline.proofs.Activations.{may_have_unit}
use Rattle.pli_headline.proofs.UnitRuns.{Raises, none_raises, signal_unit_does}
use Rattle.pli_headline.proofs.UnitStanding.{program_around, UnitStands, Tells, unit_is}
use Rattle.run_steps.specs.Items.{Linked}
use Rattle.pli_headline.proofs.Onces.{once_does}
use Rattle.pli_headline.proofs.Counts.{turning, standing_turning}
use Rattle.pli_headline.proofs.Putting.{put_does}
use Rattle.pli_headline.proofs.Getting.{get_does, get_skip_does}
use Rattle.pli_headline.proofs.ElementsAssignments.{elements_number_does, elements_bit_does}
use Rattle.pli_headline.proofs.TextsAssignments.{elements_text_does}
use Rattle.pli_headline.proofs.TextCopiesAssignments.{copies_does}
use Rattle.pli_headline.proofs.ElementAssignments.{assign_number_part_does, assign_bit_part_does}
use Rattle.pli_headline.proofs.CountStarts.{counted_does}
use Rattle.pli_headline.proofs.TextElementAssignments.{assign_text_part_does}
use Rattle.pli_headline.proofs.PlainInside.{DeclaresPlain, DeclarePlain}

-- constant bytes stand in a block inside it
standing_inner : {e : Environment} {block : Names} {types : Types} {bl : Block e block types} {links : Links} {code : List Instr} (inner : Inner bl) (t0 : ℕ → ℕ) (number level : ℕ) (next : level ≡ suc e.level) (s : Standing bl links code) → (n : Values) → ConstantsStand links code ((inner_block bl inner t0 number level next s.filled).ground n)
standing_inner inner t0 number level next s n =
    constants_moved (λ t. t0) (λ t b m o. o.kept) (s.constants n)

pub standing_within : {e : Environment} {block : Names} {types : Types} {bl : Block e block types} {links : Links} {code : List Instr} (labels : List Label) → Standing bl links code → Standing (within labels bl) links code
standing_within labels s = record { raises = s.raises; constants = s.constants; filled = s.filled; known = s.known }

-- in a block inside it
standing_inside : {e : Environment} {block : Names} {types : Types} {bl : Block e block types} {links : Links} {code : List Instr} (inner : Inner bl) (t0 : ℕ → ℕ) (number level : ℕ) (next : level ≡ suc e.level) → frame_end e.parts e.program number level ≡ fixed_size (suc e.level) 0 → (s : Standing bl links code) → Standing (inner_block bl inner t0 number level next s.filled) links code
standing_inside {e} inner t0 number level next sized s =
    record {
      raises = s.raises;
      constants = standing_inner inner t0 number level next s;
      filled = λ owned. ap (λ u. inner.at + u) sized;
      known = known_in e.owner number level s.known;
    }

inner_labels_stand : {e : Environment} {links : Links} {all : List (ℕ × Label)} {procedure : ℕ} {main : Bool} → LabelsStand e links all procedure main → (number level : ℕ) → level ≡ suc e.level → level ≤ 100 → IsAmong (record { number = number; level = level }) e.blocks → LabelsStand (in_frame number level e) links all procedure main
inner_labels_stand named number level next shallow among =
    record {
      own = named.found (record { number = number; level = level }) among;
      found = named.found;
      once = named.once;
      owner = named.owner;
      ended = named.ended;
      lower = let l = named.lower in omega (arith, l, next);
      owned = named.owned;
      shallow = shallow;
      bare = named.bare;
    }

-- of a unit that is a block of its own
unit_among : (head : Y.BlockHead) (kind : Y.BlockKind) (bs : List BlockPlace) → kind ≡ Y.UnitBlock → IsAmong (place_of_head head) (place_of_unit head kind ++ bs)
unit_among head kind bs is = subst (λ k. IsAmong (place_of_head head) (place_of_unit head k ++ bs)) (sym is) (inl refl)

unit_labels_stand : {e : Environment} {links : Links} {all : List (ℕ × Label)} {procedure : ℕ} {main : Bool} (head : Y.BlockHead) → head.kind ≡ Y.UnitBlock → head.level ≡ 1 → LabelsStand e links all procedure main → IsAmong (place_of_head head) e.blocks → LabelsStand (unit_environment head (program_around e)) links all procedure false
unit_labels_stand {e} head kind level named among =
    let own : owner_level (owner_of_unit head head.kind) ≡ head.level = ap (λ k. owner_level (owner_of_unit head k)) kind in
    record {
      own = named.found (place_of_head head) among;
      found = named.found;
      once = named.once;
      owner = λ no. let apart : false ≡ true = no in absurd (cc apart);
      ended = λ no. let apart : false ≡ true = no in absurd (cc apart);
      lower = omega (arith, own);
      owned = subst (λ k. IsOwned (owner_of_unit head k)) (sym kind) tt;
      shallow = omega (arith, level);
      bare = named.bare;
    }

-- ---- calls

-- calls of some procedures do what they mean, in any block where the frames of so many more have room, so many blocks deep at most
abbrev pub Calls : Environment → (block : Names) → Types → (all : List (ℕ × Label)) → (procedure bound : ℕ) → Links → List Instr → (may : List ℕ) → Type 1
Calls e block types all procedure bound links code may =
    (o : Owner) (number level : ℕ) (b : Block (owned_by o (in_frame number level e)) block types) → length b.depths < most_activations → b.stack.free + 4000 * (500 - length b.depths) ≤ 14 * 2 ^ 20 → b.words < 2 ^ 22 → Standing b links code → Tells e block types all procedure may links code b.base b.frames.known → b.taken.words ≤ b.words → HasMain procedure (main_labels e.program.procedures) level number b.labels b.outer → (around : Around) → around.program ≡ e.program → (more : ℕ) → Entering e.program around more → more ≤ bound → (procedure : ℕ) → is_number procedure may ≡ true → (line : ℕ) → line < 2 ^ 31 → Does b links code around.turns (stmt_code (owned_by o (in_frame number level e)) b.taken (Y.CallProcedure (Y.Calling procedure 0 Y.NoArgument) line)) (M.statement around (Y.CallProcedure (Y.Calling procedure 0 Y.NoArgument) line))

-- conditions are raised there
abbrev pub Signals : Environment → (block : Names) → Types → (all : List (ℕ × Label)) → (procedure bound : ℕ) → Links → List Instr → (may : List ℕ) → Type 1
Signals e block types all procedure bound links code may =
    (o : Owner) (number level : ℕ) (b : Block (owned_by o (in_frame number level e)) block types) → length b.depths < most_activations → b.stack.free + 4000 * (500 - length b.depths) ≤ 14 * 2 ^ 20 → b.words < 2 ^ 22 → Standing b links code → Tells e block types all procedure may links code b.base b.frames.known → HasMain procedure (main_labels e.program.procedures) level number b.labels b.outer → (around : Around) → around.program ≡ e.program → (more : ℕ) → Entering e.program around more → more ≤ bound → (c : Condition) (oncode : ℕ) → oncode < 2 ^ 16 → (oncode == 0) ≡ false → Raises b links code around c oncode

-- they do, where the main procedure's variables alone can be named, which are the first of the block's; the units that may be in force are
-- known, and the main procedure's own block may get one; a return in a called procedure goes to its end
pub record Ways (e : Environment) (outer : Names) (outers : Types) (block : Names) (types : Types) (words bound : ℕ) (small : Bool) (taken : ℕ) (labels : List Label) (os : List OuterBlock) (base : ℕ) (units : Condition → ℕ → Y.Block → ℕ → Type 0) (all : List (ℕ × Label)) (procedure : ℕ) (links : Links) (code : List Instr) (main returns : Bool) (may : List ℕ) : Type 1 where
  pub narrows : Narrows outer outers block types
  pub calls : Calls e outer outers all procedure bound links code may
  pub signals : Signals e outer outers all procedure bound links code may
  pub tells : Tells e outer outers all procedure may links code base units
  pub makes : (0 == e.level) ≡ true → (c : Condition) (u : Y.Block) (at : ℕ) → UnitStands (program_around e) block types all procedure may links code c u at → units c base u at
  pub narrow : words < 2 ^ 22
  pub ends : returns ≡ true → main ≡ false → IsHome e links os
  pub mains : HasMain procedure (main_labels e.program.procedures) e.level e.block labels os

ways_within : {e : Environment} {outer : Names} {outers : Types} {block : Names} {types : Types} {words bound : ℕ} {small : Bool} {taken : ℕ} {labels : List Label} {os : List OuterBlock} {base : ℕ} {units : Condition → ℕ → Y.Block → ℕ → Type 0} {all : List (ℕ × Label)} {procedure : ℕ} {links : Links} {code : List Instr} {main returns : Bool} {may : List ℕ} (more : List Label) → Ways e outer outers block types words bound small taken labels os base units all procedure links code main returns may → Ways e outer outers block types words bound small taken (more ++ labels) os base units all procedure links code main returns may
ways_within {e} {labels = labels} {os = os} {procedure = procedure} more ways =
    record {
      narrows = ways.narrows;
      calls = ways.calls;
      signals = ways.signals;
      tells = ways.tells;
      makes = ways.makes;
      narrow = ways.narrow;
      ends = ways.ends;
      mains = more_main procedure (main_labels e.program.procedures) e.level e.block more labels os ways.mains;
    }

-- ---- room

-- above a block, for so many words and bytes of variables in the frames of BEGIN blocks in a part: each is small, or with those of 500
-- small frames they fit, where the variables of BEGIN blocks around, of so many bytes, take the place of some of these
abbrev pub Room : (small : Bool) → (taken free depth words own level : ℕ) → Type 0
Room false taken free depth words own level =
    ((free + 4 * words + 700 * (101 - level) + 2020000 ≤ 14 * 2 ^ 20 + taken) × (taken + own ≤ 1000000)) × (depth < most_activations)
Room true taken free depth words own level =
    ((free + 4000 * (500 - depth) ≤ 14 * 2 ^ 20) × (4 * words + own ≤ 3200)) × (depth < most_activations)

room_less : (small : Bool) (taken free depth words words' own own' level : ℕ) → words' ≤ words → own' ≤ own → Room small taken free depth words own level → Room small taken free depth words' own' level
room_less false taken free depth words words' own own' level less fewer room =
    let r = room.0.0 in let few = room.0.1 in ((omega (arith, r, less), omega (arith, few, fewer)), room.1)
room_less true taken free depth words words' own own' level less fewer room =
    ((room.0.0, let r = room.0.1 in omega (arith, r, less, fewer)), room.1)

-- for a frame, with its variables
room_frame : (small : Bool) (taken free depth words more own others level : ℕ) → level < 100 → Room small taken free depth (words + more) (own + others) level → free + 4 * words + own + 700 ≤ 14 * 2 ^ 20
room_frame false taken free depth words more own others level shallow room =
    let r = room.0.0 in let few = room.0.1 in omega (arith, r, few, shallow)
room_frame true taken free depth words more own others level shallow room =
    let r = room.0.0 in let few = room.0.1 in let d = room.1 in omega (arith, r, few, d)

-- above it, without variables
room_bare : (small : Bool) (taken free depth words more own others level level' : ℕ) → level < 100 → level' ≡ suc level → suc depth < most_activations → Room small taken free depth (words + more) (own + others) level → Room small (taken + own) (free + temporary_bytes words + fixed_size (suc level) 0) (suc depth) more others level'
room_bare false taken free depth words more own others level level' shallow next deep room =
    let r = room.0.0 in let few = room.0.1 in ((omega (arith, r, shallow, next), omega (arith, few)), deep)
room_bare true taken free depth words more own others level level' shallow next deep room =
    let r = room.0.0 in let few = room.0.1 in ((omega (arith, r, few, deep, shallow), omega (arith, few)), deep)

-- above it and its variables
room_inner : (small : Bool) (taken free depth words more own others level level' : ℕ) → level < 100 → level' ≡ suc level → suc depth < most_activations → Room small taken free depth (words + more) (own + others) level → Room small (taken + own) (free + temporary_bytes words + fixed_size (suc level) 0 + own) (suc depth) more others level'
room_inner false taken free depth words more own others level level' shallow next deep room =
    let r = room.0.0 in let few = room.0.1 in ((omega (arith, r, shallow, next), omega (arith, few)), deep)
room_inner true taken free depth words more own others level level' shallow next deep room =
    let r = room.0.0 in let few = room.0.1 in ((omega (arith, r, few, deep, shallow), omega (arith, few)), deep)

-- for its variables
room_few : (small : Bool) (taken free depth words own level : ℕ) → Room small taken free depth words own level → own ≤ 1000000
room_few false taken free depth words own level room = let few = room.0.1 in omega (arith, few)
room_few true taken free depth words own level room = let r = room.0.1 in omega (arith, r)

-- for calls
room_calls : (small : Bool) (taken free depth words own level : ℕ) → IsShallow taken → Room small taken free depth words own level → free + 4000 * (500 - depth) ≤ 14 * 2 ^ 20
room_calls false taken free depth words own level shallow room = let r = room.0.0 in omega (arith, r, shallow)
room_calls true taken free depth words own level shallow room = room.0.0

room_deep : (small : Bool) (taken free depth words own level : ℕ) → Room small taken free depth words own level → depth < most_activations
room_deep false taken free depth words own level room = room.1
room_deep true taken free depth words own level room = room.1

may_have : (program : Y.Program) (c : Condition) → HasUnitFor program c → may_have_unit c ≡ true
may_have program C.Area has = refl
may_have program C.Endfile has = refl
may_have program _ has = absurd has

-- the line counts nothing where blocks are entered
pub entering_at : {program : Y.Program} {around : Around} {more : ℕ} (line : ℕ) → Entering program around more → Entering program (at_line around line) more
entering_at line entering = record { enter = entering.enter; turns = entering.turns }

-- in a program without a unit for ENDFILE none is in force
pub none_ends : {e : Environment} {block : Names} {types : Types} (bl : Block e block types) {outer : Names} {outers : Types} {all : List (ℕ × Label)} {procedure : ℕ} {may : List ℕ} {links : Links} {code : List Instr} → Tells e outer outers all procedure may links code bl.base bl.frames.known → main_catches_end e.program.procedures ≡ false → NoUnit (bl.frames.known C.Endfile)
none_ends bl tells none frame u at known =
    let no : true ≡ false = sym (tells C.Endfile frame u at known).1.condition ∙ none in absurd (cc no)

-- a block declares nothing, or something
by_declared : {A : Type 1} (ds : List Y.DeclaredVariable) → (ds ≡ [] → A) → A → A
by_declared [] none some' = none refl
by_declared (d ∷ ds) none some' = some'

return_by : {e : Environment} {block : Names} {types : Types} (main : Bool) (bl : Block e block types) (links : Links) (code : List Instr) (around : Around) (line number : ℕ) → line < 2 ^ 31 → e.level ≤ 100 → (main ≡ true → e.owner ≡ BlockOwner (record { number = number; level = 0 })) → (main ≡ true → IsEndMarkedOnce links number) → (main ≡ false → IsHome e links bl.outer) → Does bl links code around.turns (stmt_code e bl.taken (Y.Return line)) (M.statement around (Y.Return line))
return_by true bl links code around line number fits few owner ended home =
    return_does bl links code around line number fits (owner refl) (ended refl)
return_by false bl links code around line number fits few owner ended home =
    home_does bl links code around line few fits (home refl)

mutual
  pub statement_does : {e : Environment} {block : Names} {types : Types} (bl : Block e block types) (links : Links)
      (code : List Instr) (routines : Standing bl links code) (around : Around) (same : around.program ≡ e.program)
      {all : List (ℕ × Label)} {procedure : ℕ} {main returns small : Bool} {taken : ℕ} {may : List ℕ} {bound : ℕ}
      {outer : Names} {outers : Types} (named : LabelsStand e links all procedure main) (x : Y.Stmt)
      → IsProvedStatement block types x → JumpsAround e.block e.level all e.blocks
      (main_outer procedure e.program.procedures) bl.outer bl.labels x → (stmt_takes bl.taken x).words ≤ bl.words
      → Room small taken bl.stack.free (length bl.depths) (inner_words x) (bytes_in e.program x) e.level
      → DeclaresPlain e.program x → {more : ℕ} → Entering e.program around more → more ≤ bound
      → ((b : BlockPlace) → IsAmong b (blocks_in x) → IsAmong b e.blocks) → CallsAmong e.program may returns taken x
      → Ways e outer outers block types bl.words bound small taken bl.labels bl.outer bl.base bl.frames.known all
      procedure links code main returns may → Does bl links code around.turns (stmt_code e bl.taken x)
      (M.statement around x)
  statement_does bl links code routines around same named (Y.Null line) is jumps room space bare entering least known calls ways = null_does bl links code around line is
  statement_does bl links code routines around same named (Y.Assign target (Y.StoredNumber precision x) line) is jumps room space bare entering least known calls ways =
      let a = stored_needs bl.taken (Y.StoredNumber precision x) in
      let d = behind_number bl.taken target in
      assign_number_part_does bl links code routines around target precision x line is.0 is.1.0 (omega (arith, a, room)) (omega (arith, d, room)) is.1.1
  statement_does bl links code routines around same named (Y.Assign target (Y.StoredBit x) line) is jumps room space bare entering least known calls ways =
      let a = bit_needs bl.taken x in
      let d = behind_number bl.taken target in
      assign_bit_part_does bl links code routines around target x line is.0 is.1.0 (omega (arith, d, room)) (omega (arith, a, room)) is.1.1
  statement_does bl links code routines around same named (Y.Assign target (Y.StoredText x) line) is jumps room space bare entering least known calls ways =
      let a = text_needs bl.taken x in
      let d = reference_needs bl.taken target in
      assign_text_part_does bl links code routines around target x line is.0 is.1.0 (omega (arith, a, room)) (omega (arith, d, room)) is.1.1
  statement_does bl links code routines around same named (Y.AssignElements target (Y.StoredNumber precision x) line) is jumps room space bare entering least known calls ways =
      elements_number_does bl links code routines around target precision x line is.0 is.1.0 room is.1.1
  statement_does bl links code routines around same named (Y.AssignElements target (Y.StoredBit x) line) is jumps room space bare entering least known calls ways =
      elements_bit_does bl links code routines around target x line is.0 is.1.0 room is.1.1
  statement_does bl links code routines around same named (Y.AssignElements target (Y.StoredText x) line) is jumps room space bare entering least known calls ways =
      elements_text_does bl links code routines around target x line is.0 is.1.0 room is.1.1
  statement_does bl links code routines around same named (Y.AssignAggregate target source line) is jumps room space bare entering least known calls ways =
      let a = record_grows bl.taken target in
      copies_does bl links code routines around target source line is.0 (omega (arith, a, room)) is.1
  statement_does bl links code routines around same named (Y.If condition unit line) is jumps room space bare entering least known calls ways =
      let a = bit_needs bl.taken condition in
      if_does bl links code routines around condition unit line is.0 (omega (arith, a, room)) is.1.1
      (statement_does bl links code routines around same named unit is.1.0 jumps
      (omega (arith, room)) space bare entering least known calls ways)
  statement_does {e} bl links code routines around same {all} {procedure} {main} {small = small} {taken = filled} named (Y.IfElse condition unit otherwise line) is jumps room space bare entering least known calls ways =
      let a = bit_needs bl.taken condition in
      let i1 = le-max_left (inner_words unit) (inner_words otherwise) in
      let i2 = le-max_right (inner_words unit) (inner_words otherwise) in
      let b1 = le-max_left (bytes_in e.program unit) (bytes_in e.program otherwise) in
      let b2 = le-max_right (bytes_in e.program unit) (bytes_in e.program otherwise) in
      if_else_does bl links code routines around condition unit otherwise line is.0 (omega (arith, a, room)) is.1.1.1
      (statement_does bl links code routines around same named unit is.1.0 jumps.0 (omega (arith, room))
      (room_less small filled bl.stack.free (length bl.depths) (max (inner_words unit) (inner_words otherwise)) (inner_words unit) (max (bytes_in e.program unit) (bytes_in e.program otherwise)) (bytes_in e.program unit) e.level i1 b1 space) bare.0 entering least (λ b h. known b (among_front b (blocks_in unit) (blocks_in otherwise) h)) calls.0 ways)
      (statement_does bl links code routines around same named otherwise is.1.1.0 jumps.1 (omega (arith, room))
      (room_less small filled bl.stack.free (length bl.depths) (max (inner_words unit) (inner_words otherwise)) (inner_words otherwise) (max (bytes_in e.program unit) (bytes_in e.program otherwise)) (bytes_in e.program otherwise) e.level i2 b2 space) bare.1 entering least (λ b h. known b (among_back b (blocks_in unit) (blocks_in otherwise) h)) calls.1 ways)
  statement_does bl links code routines around same named (Y.Do body line) is jumps room space bare entering least known calls ways =
      do_does bl links code around body line is.1
      (listed bl around body (each_does (within (labels_in body) bl) links code (standing_within (labels_in body) routines) around same named body is.0 jumps room space bare entering least known calls (ways_within (labels_in body) ways)))
  statement_does bl links code routines around same named (Y.DoWhile condition body line) is jumps room space bare entering least known calls ways =
      let a = bit_needs bl.taken condition in
      while_does bl links code routines around condition body line is.0 (omega (arith, a, room)) is.1.1
      (listed bl around body (each_does (within (labels_in body) bl) links code
      (standing_within (labels_in body) routines) around same named body is.1.0 jumps
      (omega (arith, room)) space bare entering least known calls (ways_within (labels_in body) ways)))
  statement_does bl links code routines around same named (Y.DoOnce target (Y.StoredNumber precision x) condition body line) is jumps room space bare entering least known calls ways =
      let a = stored_needs bl.taken (Y.StoredNumber precision x) in
      let d = behind_number bl.taken target in
      let d1 = bit_if_needs bl.taken condition in
      once_does bl links code routines around target (Y.StoredNumber precision x) condition body line is.1.0
      (omega (arith, d1, room)) is.1.1.1
      (assign_number_part_does bl links code routines around target precision x line is.0.0 is.0.1
      (omega (arith, a, room)) (omega (arith, d, room)) is.1.1.1)
      (listed bl around body (each_does (within (labels_in body) bl) links code
      (standing_within (labels_in body) routines) around same named body is.1.1.0 jumps
      (omega (arith, room)) space bare entering least known calls (ways_within (labels_in body) ways)))
  statement_does bl links code routines around same named (Y.DoOnce target (Y.StoredBit x) condition body line) is jumps room space bare entering least known calls ways =
      let a = bit_needs bl.taken x in
      let d = behind_number bl.taken target in
      let d1 = bit_if_needs bl.taken condition in
      once_does bl links code routines around target (Y.StoredBit x) condition body line is.1.0
      (omega (arith, d1, room)) is.1.1.1
      (assign_bit_part_does bl links code routines around target x line is.0.0 is.0.1 (omega (arith, d, room))
      (omega (arith, a, room)) is.1.1.1)
      (listed bl around body (each_does (within (labels_in body) bl) links code
      (standing_within (labels_in body) routines) around same named body is.1.1.0 jumps
      (omega (arith, room)) space bare entering least known calls (ways_within (labels_in body) ways)))
  statement_does bl links code routines around same named (Y.DoOnce target (Y.StoredText x) condition body line) is jumps room space bare entering least known calls ways =
      let a = text_needs bl.taken x in
      let d = reference_needs bl.taken target in
      let d1 = bit_if_needs bl.taken condition in
      once_does bl links code routines around target (Y.StoredText x) condition body line is.1.0
      (omega (arith, d1, room)) is.1.1.1
      (assign_text_part_does bl links code routines around target x line is.0.0 is.0.1 (omega (arith, a, room))
      (omega (arith, d, room)) is.1.1.1)
      (listed bl around body (each_does (within (labels_in body) bl) links code
      (standing_within (labels_in body) routines) around same named body is.1.1.0 jumps
      (omega (arith, room)) space bare entering least known calls (ways_within (labels_in body) ways)))
  statement_does bl links code routines around same named (Y.DoCount (Y.NumberCounter precision target) start limit step condition body line) is jumps room space bare entering least known calls ways =
      let b = before_turns bl.taken in
      let a1 = value_needs b start in
      let a2 = number_if_needs b limit in
      let a3 = number_needs b step in
      let a4 = number_grows b step in
      let d1 = behind_number (in_turns bl.taken) target in
      let d2 = bit_if_needs (in_turns bl.taken) condition in
      counted_does bl links code routines around target precision start limit step condition body line is.0.0
      (omega (arith, room, a4)) (omega (arith, room, d1)) is.0.1 is.1.0.0 is.1.0.1 is.1.1.0
      (omega (arith, room, a1)) (omega (arith, room, a2)) (omega (arith, room, a3)) (omega (arith, room, d2)) is.1.1.1.1
      (listed (turning bl) around body (each_does (within (labels_in body) (turning bl)) links code
      (standing_within (labels_in body) (standing_turning routines)) around same named body is.1.1.1.0 jumps
      (omega (arith, room)) space bare entering least known calls (ways_within (labels_in body) ways)))
  statement_does {e} {block} {types} bl links code routines around same {all} {procedure} {main} {returns} {small = small} {taken = filled} {may = may} {bound = bound} {outer = outer} {outers = outers} named (Y.Begin (Y.BlockOf head body)) is jumps room space bare {more} entering least known calls ways =
      let vars = variables_of_block e.program head.number in
      let next = jumps.0.0 in
      let deep = jumps.0.1 in
      let shallow : e.level < 100 = omega (arith, next, deep) in
      let own' : OuterBlock = record { level = e.level; number = e.block; labels = bl.labels } in
      let words = max 0 (body_words body) in
      let fits = room_frame small filled bl.stack.free (length bl.depths) words (all_inner_words body) (bytes_of vars) (inner_bytes e.program body) e.level shallow space in
      let inner = inner_of bl words shallow (omega (arith, fits)) in
      let here : (more' : ℕ) → Around = λ more'. inner_around e.program more' head.line in
      let most = le-max_right 0 (body_words body) in
      by_declared vars
      (λ none.
      let here' : variables_of_block block.program head.number ≡ [] = ap (λ p. variables_of_block p head.number) bl.named ∙ none in
      let are : AreProvedStatements block types body = subst (λ ds. AreProvedStatements (names_in block types head ds) (types_in types ds) body) here' is.1.1 in
      let around' : AllJumpAround head.number head.level all e.blocks (main_outer procedure e.program.procedures) (own' ∷ bl.outer) (labels_in body) body = jumps.1 in
      let sized : frame_end e.parts e.program head.number head.level ≡ fixed_size (suc e.level) 0 = named.bare head.number head.level none ∙ ap (λ l. fixed_size l 0) next in
      begin_does bl links code around more head body inner named.lower refl shallow next routines.filled is.0 is.1.0 none entering
      (λ more' step deeper t0.
      let ib = inner_block bl inner t0 head.number head.level next routines.filled in
      let high : AllJumpAround head.number head.level all e.blocks (main_outer procedure e.program.procedures) ib.outer (labels_in body ++ []) body = subst (λ ls. AllJumpAround head.number head.level all e.blocks (main_outer procedure e.program.procedures) ib.outer ls body) (sym (append-nil (labels_in body))) around' in
      listed ib (here more') body
      (each_does (within (labels_in body) ib) links code (standing_within (labels_in body) (standing_inside inner t0 head.number head.level next sized routines)) (here more') refl (inner_labels_stand named head.number head.level next deep (known (place_of_head head) (inl refl))) body are high (omega (arith, most))
      (room_bare small filled bl.stack.free (length bl.depths) words (all_inner_words body) (bytes_of vars) (inner_bytes e.program body) e.level head.level shallow next deeper space)
      bare.1 (inner_entering e.program more' head.line) (omega (arith, least, step)) (λ b h. known b (inr h)) calls
      (record { narrows = ways.narrows; calls = ways.calls; signals = ways.signals; tells = ways.tells; makes = λ same' u at k. let no : true ≡ false = sym same' ∙ other_level head.level e.level next in absurd (cc no); narrow = omega (arith, fits); ends = λ may' other. inr (ways.ends may' other); mains = more_main procedure (main_labels e.program.procedures) head.level head.number (labels_in body) [] ib.outer (inr ways.mains) }))))
      (let are' : ArePlain vars = bare.0 in
      let few = room_few small filled bl.stack.free (length bl.depths) (words + all_inner_words body) (bytes_of vars + inner_bytes e.program body) e.level space in
      let are : AreProvedStatements (names_in block types head vars) (types_in types vars) body = subst (λ p. AreProvedStatements (names_in block types head (variables_of_block p head.number)) (types_in types (variables_of_block p head.number)) body) bl.named is.1.1 in
      let around' : AllJumpAround head.number head.level all e.blocks (main_outer procedure e.program.procedures) (own' ∷ bl.outer) (labels_in body) body = jumps.1 in
      let makes = λ (t0 : ℕ → ℕ). inner_makes bl inner t0 head next routines.filled routines.known are' deep (let place = inner.place in omega (arith, fits, shallow)) (omega (arith, few)) in
      declares_does bl links code around more head body inner named.lower refl shallow next routines.filled (known_in e.owner head.number head.level routines.known) are' makes (λ t0. standing_inner inner t0 head.number head.level next routines) is.0 is.1.0 entering
      (λ more' step deeper t0 serial.
      let ib = inner_block bl inner t0 head.number head.level next routines.filled in
      let mb = made_block ib vars (makes t0) serial in
      let made = is_made vars ib (makes t0) serial in
      let w = made.words in
      let taken = made.taken in
      let depths = made.depths in
      let free' = made.free in
      let high : AllJumpAround head.number head.level all e.blocks (main_outer procedure e.program.procedures) mb.outer (labels_in body ++ mb.labels) body = subst (λ os. AllJumpAround head.number head.level all e.blocks (main_outer procedure e.program.procedures) os (labels_in body ++ mb.labels) body) (sym made.outer) (subst (λ ls. AllJumpAround head.number head.level all e.blocks (main_outer procedure e.program.procedures) (own' ∷ bl.outer) ls body) (sym (ap (λ ls. labels_in body ++ ls) made.labels ∙ append-nil (labels_in body))) around') in
      let standing : Standing mb links code = record {
        raises = routines.raises;
        constants = made_constants vars ib (makes t0) serial (standing_inner inner t0 head.number head.level next routines);
        filled = made_filled bl inner t0 head next routines.filled routines.known are' deep (omega (arith, few)) (makes t0) serial;
        known = known_in e.owner head.number head.level routines.known;
      } in
      subst (λ tk. Does mb links code (suc more') (stmts_code (in_frame head.number head.level e) tk body) (M.list (here more') body)) taken
      (listed mb (here more') body
      (each_does (within (labels_in body) mb) links code (standing_within (labels_in body) standing) (here more') refl
      {bound = bound} (inner_labels_stand named head.number head.level next deep
      (known (place_of_head head) (inl refl))) body are high
      (subst (λ tk. (stmts_take tk body).words ≤ mb.words) (sym taken) (omega (arith, most, w)))
      (subst (λ d. Room small (filled + bytes_of vars) mb.stack.free d (all_inner_words body) (inner_bytes e.program body) head.level) (sym (ap (λ (ds : List ℕ). length ds) depths))
      (subst (λ fr. Room small (filled + bytes_of vars) fr (suc (length bl.depths)) (all_inner_words body) (inner_bytes e.program body) head.level) (sym free')
      (room_inner small filled bl.stack.free (length bl.depths) words (all_inner_words body) (bytes_of vars) (inner_bytes e.program body) e.level head.level shallow next deeper space)))
      bare.1 (inner_entering e.program more' head.line) (omega (arith, least, step)) (λ b h. known b (inr h)) calls
      (record {
        narrows = narrows_in head vars (omega (arith, next)) ways.narrows;
        calls = ways.calls;
        signals = ways.signals;
        tells = subst (λ b. Tells e outer outers all procedure may links code b mb.frames.known) (sym made.base) (subst (λ (fs : Frames). Tells e outer outers all procedure may links code bl.base fs.known) (sym made.frames) ways.tells);
        makes = λ same' u at k. let no : true ≡ false = sym same' ∙ other_level head.level e.level next in absurd (cc no);
        narrow = omega (arith, fits, w);
        ends = λ may' other'. subst (IsHome (in_frame head.number head.level e) links) (sym made.outer) (inr (ways.ends may' other'));
        mains = subst (λ os. HasMain procedure (main_labels e.program.procedures) head.level head.number (labels_in body ++ mb.labels) os) (sym made.outer) (more_main procedure (main_labels e.program.procedures) head.level head.number (labels_in body) mb.labels (own' ∷ bl.outer) (inr ways.mains));
      })))))
  statement_does {e} bl links code routines around same {all} {procedure} {main} {small = small} {taken = filled} named (Y.CallProcedure (Y.Calling number level Y.NoArgument) line) is jumps room space bare {more} entering least known calls ways =
      let mains = main_labels e.program.procedures in
      subst (λ n. Does bl links code around.turns (stmt_code e bl.taken (Y.CallProcedure (Y.Calling number n Y.NoArgument) line)) (M.statement around (Y.CallProcedure (Y.Calling number n Y.NoArgument) line))) (sym is.0)
      (through_does bl ways.narrows procedure mains ways.mains
      (λ n0 x. ways.calls e.owner e.block e.level (narrowed bl ways.narrows n0 x procedure mains ways.mains) (room_deep small filled bl.stack.free (length bl.depths) 0 0 e.level space) (room_calls small filled bl.stack.free (length bl.depths) 0 0 e.level calls.0 space) ways.narrow (standing_narrowed ways.narrows n0 x procedure mains ways.mains routines) ways.tells (omega (arith, room)) (narrowed_has bl procedure mains ways.mains) around same more entering least number calls.1 line is.1))
  statement_does bl links code routines around same {main = main} named (Y.Return line) is jumps room space bare entering least known calls ways =
      return_by main bl links code around line _ is named.shallow named.owner named.ended (ways.ends calls)
  statement_does {e} bl links code routines around same named (Y.Goto level label line) is (inl jumps) room space bare entering least known calls ways =
      goto_does bl links code around level label line jumps.0 is jumps.1.0 (named.once e.block label jumps.1.1) named.own
  statement_does bl links code routines around same {all} named (Y.Goto level label line) is (inr jumps) room space bare entering least known calls ways =
      out_does bl links code around all level label line (λ number h. named.once number label h) (inr named.owned) named.shallow is jumps
  statement_does bl links code routines around same named (Y.Stop line) is jumps room space bare entering least known calls ways = stop_does bl links code around line is
  statement_does {e} bl links code routines around same {all} {procedure} {small = small} {taken = filled} named (Y.Signal C.Area line) is jumps room space bare {more} entering least known calls ways =
      let mains = main_labels e.program.procedures in
      through_does bl ways.narrows procedure mains ways.mains
      (λ n0 x. signal_unit_does (narrowed bl ways.narrows n0 x procedure mains ways.mains) links code routines.raises around C.Area line refl is (ways.signals e.owner e.block e.level (narrowed bl ways.narrows n0 x procedure mains ways.mains) (room_deep small filled bl.stack.free (length bl.depths) 0 0 e.level space) (room_calls small filled bl.stack.free (length bl.depths) 0 0 e.level calls space) ways.narrow (standing_narrowed ways.narrows n0 x procedure mains ways.mains routines) ways.tells (narrowed_has bl procedure mains ways.mains) (at_line around line) same more (entering_at line entering) least C.Area (code_signalled C.Area) (lit< tt) refl))
  statement_does bl links code routines around same named (Y.Signal C.FixedOverflow line) is jumps room space bare entering least known calls ways = signal_does bl links code routines.raises around C.FixedOverflow line refl is
  statement_does bl links code routines around same named (Y.Signal C.ZeroDivide line) is jumps room space bare entering least known calls ways = signal_does bl links code routines.raises around C.ZeroDivide line refl is
  statement_does bl links code routines around same named (Y.Signal C.Endfile line) is jumps room space bare entering least known (inl none) ways =
      signal_unit_does bl links code routines.raises around C.Endfile line refl is (none_raises bl links code (at_line around line) C.Endfile (code_signalled C.Endfile) (none_ends bl ways.tells none))
  statement_does {e} bl links code routines around same {all} {procedure} {small = small} {taken = filled} named (Y.Signal C.Endfile line) is jumps room space bare {more} entering least known (inr calls) ways =
      let mains = main_labels e.program.procedures in
      through_does bl ways.narrows procedure mains ways.mains
      (λ n0 x. signal_unit_does (narrowed bl ways.narrows n0 x procedure mains ways.mains) links code routines.raises around C.Endfile line refl is (ways.signals e.owner e.block e.level (narrowed bl ways.narrows n0 x procedure mains ways.mains) (room_deep small filled bl.stack.free (length bl.depths) 0 0 e.level space) (room_calls small filled bl.stack.free (length bl.depths) 0 0 e.level calls space) ways.narrow (standing_narrowed ways.narrows n0 x procedure mains ways.mains routines) ways.tells (narrowed_has bl procedure mains ways.mains) (at_line around line) same more (entering_at line entering) least C.Endfile (code_signalled C.Endfile) (lit< tt) refl))
  statement_does bl links code routines around same named (Y.Signal C.Error line) is jumps room space bare entering least known calls ways = signal_does bl links code routines.raises around C.Error line refl is
  statement_does bl links code routines around same named (Y.OnSystem condition line) is jumps room space bare entering least known calls ways = on_system_does bl links code around condition line is
  statement_does bl links code routines around same named (Y.Revert condition line) is jumps room space bare entering least known calls ways = revert_does bl links code around condition line is
  statement_does {e} {block} {types} bl links code routines around same named (Y.OnUnit condition (Y.BlockOf head body) line) is jumps room space bare entering least known calls ways =
      let for = subst (λ p. HasUnitFor p condition) bl.named is.0 in
      on_unit_does bl links code around condition head body line jumps.0 (may_have e.program condition for) is.1.1.0
      (λ i later l. ways.makes jumps.0 condition (Y.BlockOf head body) (4 * i) (record {
        condition = for;
        head = head;
        body = body;
        is = refl;
        what = is.1.0;
        level = jumps.1.0;
        line = is.1.1.1.0;
        proved = subst (λ p. AreProvedStatements (names_in block types head (unit_declares p head head.kind)) (types_in types (unit_declares p head head.kind)) body) bl.named is.1.1.1.1;
        jumps = jumps.1.1.1;
        declares = bare.0;
        inside = bare.1;
        calls = calls.0;
        few = calls.1.0;
        once = named.once;
        labels = λ kind. unit_labels_stand head kind jumps.1.0 named (known (place_of_head head) (unit_among head head.kind (blocks_among body) kind));
        blocks = λ b h. known b (among_back b (place_of_unit head head.kind) (blocks_among body) h);
        index = i;
        at_is = refl;
        later = later;
        linked = subst (Linked links code i) (unit_is e head body bare.0 jumps.1.0) l;
      }))
  statement_does bl links code routines around same named (Y.Put None pairs line) is jumps room space bare entering least known calls ways =
      put_does bl links code routines around pairs line is.0 is.1 (put_room bl.taken pairs bl.words room)
  statement_does bl links code routines around same named (Y.Put (Some n) pairs line) is jumps room space bare entering least known calls ways =
      put_skip_does bl links code routines around n pairs line is.0.0 is.0.1 is.1.0 is.1.1
      (put_room bl.taken pairs bl.words room)
  statement_does bl links code routines around same named (Y.Get None pairs line) is jumps room space bare entering least known (inl none) ways =
      get_does bl links code routines around same pairs line
      (none_raises bl links code (at_line around line) C.Endfile endfile_code (none_ends bl ways.tells none)) is.0 is.1
      (get_room bl.taken pairs bl.words room)
  statement_does {e} bl links code routines around same {all} {procedure} {small = small} {taken = filled} named (Y.Get None pairs line) is jumps room space bare {more} entering least known (inr shallow) ways =
      let mains = main_labels e.program.procedures in
      get_does bl links code routines around same pairs line
      (through_raises bl ways.narrows procedure mains ways.mains
      (λ n0 x. ways.signals e.owner e.block e.level (narrowed bl ways.narrows n0 x procedure mains ways.mains) (room_deep small filled bl.stack.free (length bl.depths) 0 0 e.level space) (room_calls small filled bl.stack.free (length bl.depths) 0 0 e.level shallow space) ways.narrow (standing_narrowed ways.narrows n0 x procedure mains ways.mains routines) ways.tells (narrowed_has bl procedure mains ways.mains) (at_line around line) same more (entering_at line entering) least C.Endfile endfile_code (lit< tt) refl))
      is.0 is.1 (get_room bl.taken pairs bl.words room)
  statement_does bl links code routines around same named (Y.Get (Some n) pairs line) is jumps room space bare entering least known (inl none) ways =
      get_skip_does bl links code routines around same n pairs line
      (none_raises bl links code (at_line around line) C.Endfile endfile_code (none_ends bl ways.tells none)) is.0.0
      is.0.1 is.1.0 is.1.1 (get_room bl.taken pairs bl.words room)
  statement_does {e} bl links code routines around same {all} {procedure} {small = small} {taken = filled} named (Y.Get (Some n) pairs line) is jumps room space bare {more} entering least known (inr shallow) ways =
      let mains = main_labels e.program.procedures in
      get_skip_does bl links code routines around same n pairs line
      (through_raises bl ways.narrows procedure mains ways.mains
      (λ n0 x. ways.signals e.owner e.block e.level (narrowed bl ways.narrows n0 x procedure mains ways.mains) (room_deep small filled bl.stack.free (length bl.depths) 0 0 e.level space) (room_calls small filled bl.stack.free (length bl.depths) 0 0 e.level shallow space) ways.narrow (standing_narrowed ways.narrows n0 x procedure mains ways.mains routines) ways.tells (narrowed_has bl procedure mains ways.mains) (at_line around line) same more (entering_at line entering) least C.Endfile endfile_code (lit< tt) refl))
      is.0.0 is.0.1 is.1.0 is.1.1 (get_room bl.taken pairs bl.words room)
  statement_does bl links code routines around same named _ is jumps room space bare entering least known calls ways = absurd is

  pub each_does : {e : Environment} {block : Names} {types : Types} (bl : Block e block types) (links : Links)
      (code : List Instr) (routines : Standing bl links code) (around : Around) (same : around.program ≡ e.program)
      {all : List (ℕ × Label)} {procedure : ℕ} {main returns small : Bool} {taken : ℕ} {may : List ℕ} {bound : ℕ}
      {outer : Names} {outers : Types} (named : LabelsStand e links all procedure main) (body : Y.Stmts)
      → AreProvedStatements block types body → AllJumpAround e.block e.level all e.blocks
      (main_outer procedure e.program.procedures) bl.outer bl.labels body → (stmts_take bl.taken body).words ≤ bl.words
      → Room small taken bl.stack.free (length bl.depths) (all_inner_words body) (inner_bytes e.program body) e.level
      → DeclarePlain e.program body → {more : ℕ} → Entering e.program around more → more ≤ bound
      → ((b : BlockPlace) → IsAmong b (blocks_among body) → IsAmong b e.blocks)
      → AllCallAmong e.program may returns taken body
      → Ways e outer outers block types bl.words bound small taken bl.labels bl.outer bl.base bl.frames.known all
      procedure links code main returns may → EachDoes bl links code around body
  each_does bl links code routines around same named (Y.EndOfList labels) are jumps room space bare entering least known calls ways = tt
  each_does {e} bl links code routines around same {all} {procedure} {main} {small = small} {taken = filled} named (Y.StmtThen labels first rest) are jumps room space bare entering least known calls ways =
      let i1 = le-max_left (inner_words first) (all_inner_words rest) in
      let i2 = le-max_right (inner_words first) (all_inner_words rest) in
      let b1 = le-max_left (bytes_in e.program first) (inner_bytes e.program rest) in
      let b2 = le-max_right (bytes_in e.program first) (inner_bytes e.program rest) in
      let words = max (inner_words first) (all_inner_words rest) in
      let bytes = max (bytes_in e.program first) (inner_bytes e.program rest) in (
        statement_does bl links code routines around same named first are.0 jumps.0 (omega (arith, room))
            (room_less small filled bl.stack.free (length bl.depths) words (inner_words first) bytes
            (bytes_in e.program first) e.level i1 b1 space) bare.0 entering least
            (λ b h. known b (among_front b (blocks_in first) (blocks_among rest) h)) calls.0 ways,
        each_does bl links code routines around same named rest are.1 jumps.1 (omega (arith, room))
            (room_less small filled bl.stack.free (length bl.depths) words (all_inner_words rest) bytes
            (inner_bytes e.program rest) e.level i2 b2 space) bare.1 entering least
            (λ b h. known b (among_back b (blocks_in first) (blocks_among rest) h)) calls.1 ways,
      )

-- the statements of a block
pub body_does : {e : Environment} {block : Names} {types : Types} (bl : Block e block types) (links : Links)
    (code : List Instr) (routines : Standing bl links code) (around : Around) (same : around.program ≡ e.program)
    {all : List (ℕ × Label)} {procedure : ℕ} {main returns small : Bool} {taken : ℕ} {may : List ℕ} {bound : ℕ}
    {outer : Names} {outers : Types} (named : LabelsStand e links all procedure main) (body : Y.Stmts)
    → AreProvedStatements block types body → AllJumpAround e.block e.level all e.blocks
    (main_outer procedure e.program.procedures) bl.outer (labels_in body ++ bl.labels) body
    → (stmts_take bl.taken body).words ≤ bl.words → Room small taken bl.stack.free (length bl.depths)
    (all_inner_words body) (inner_bytes e.program body) e.level → DeclarePlain e.program body → {more : ℕ}
    → Entering e.program around more → more ≤ bound
    → ((b : BlockPlace) → IsAmong b (blocks_among body) → IsAmong b e.blocks)
    → AllCallAmong e.program may returns taken body
    → Ways e outer outers block types bl.words bound small taken
    (labels_in body ++ bl.labels) bl.outer bl.base bl.frames.known all procedure links code main returns may
    → Does bl links code around.turns (stmts_code e bl.taken body) (M.list around body)
body_does bl links code routines around same named body are jumps room space bare entering least known calls ways =
    listed bl around body
    (each_does (within (labels_in body) bl) links code (standing_within (labels_in body) routines) around same named body are jumps room space bare entering least known calls ways)
