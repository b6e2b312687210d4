-- RETURN in a BEGIN block of a called procedure, which goes to the procedure's end: the blocks in its block end among the services
-- (service 6), and its frame runs again.
use Rattle.std.proofs.Common.{◌≡◌, ℕ, suc, ◌+◌, ◌^◌, ◌<◌, ◌≤◌, ◌⊎◌, inl, inr, List, [], ◌∷◌, ◌++◌, None, Option, false, refl, sym, ◌∙◌, subst, arith}
use Rattle.std.specs.Prelude.{cond, ◌==◌}
use Rattle.std.proofs.lemmas.Bool.Decides.{nat_tests}
use Rattle.rv_meaning.specs.declared.instr.Instr.{Instr}
use Rattle.pli_typing.specs.TypedTree as Y
use Rattle.pli_meaning.specs.World.{counted}
use Rattle.pli_meaning.specs.BasicValues.{BasicValue}
use Rattle.pli_meaning.specs.StorageState.{State, with_world}
use Rattle.pli_meaning.specs.Control.{Label, Meaning, act, returns, ◌>>◌}
use Rattle.pli_meaning.specs.Raising.{Around}
use Rattle.pli_meaning.specs.Executing as M
use Rattle.pli_serving.specs.ServiceState.{Services}
use Rattle.pli_coding.specs.Assembly.{ReturnPlace, JumpTo, Code, size_of}
use Rattle.pli_coding.specs.Allocating.{act_code}
use Rattle.pli_coding.specs.Environments.{Owner, BlockOwner, Environment}
use Rattle.pli_coding.specs.Statements.{unwound_to, returned_by, stmt_code}
use Rattle.pli_coding.specs.Linking.{Links}
use Rattle.pli_headline.specs.ProvedSoFar.{Types, OuterBlock, Names}
use Rattle.pli_headline.proofs.HeldPlaces.{places_unwound}
use Rattle.run_steps.proofs.Linking.{size_append}
use Rattle.run_steps.proofs.Jumps.{front_of, back_of, jump_piece}
use Rattle.pli_headline.proofs.Acts.{acted, act_to}
use Rattle.pli_headline.proofs.Ifs.{free_far}
use Rattle.pli_headline.proofs.MoreStates.{restricts_all}
use Rattle.pli_headline.proofs.Statements.{Restricts, AllSeen, Enclosing, Enclosures, Block, counted_all, IsEndMarkedOnce, HomeOf, Homes, Enough, Does}
use Rattle.pli_headline.proofs.EndedBlocks.{all_ended}
use Rattle.pli_headline.proofs.Returns.{unwound_services, own_end_does}
use Rattle.pli_headline.proofs.JumpsOut.{unwound_size, unwound_piece}
use Rattle.run_steps.specs.Reach.{Family}
use Rattle.run_steps.proofs.Reach.{before_closed, comes_on, onward}
use Rattle.pli_headline.proofs.Storages.{storage}

-- ---- to the end of a block around

abbrev home_code : OuterBlock → Code
home_code o = unwound_to o.level 0 ++ JumpTo (ReturnPlace o.number) ∷ []

-- the act leaves no credits to count, so the end may stand anywhere
own_home_does : {e : Environment} {block : Names} {types : Types} (bl : Block e block types) (links : Links) (code : List Instr) (around : Around) {o : OuterBlock} (d : Enclosing e o bl.ground bl.levels bl.frames.list (e.level ∷ bl.depths)) (seen : Restricts bl.serials block types d.serials d.names d.types) (line : ℕ) → ((i k : ℕ) (h t : ℕ → ℕ) (acts : ℕ) (jumped : ℕ → Family → Services → ℕ → Label → State → Type 0) (returned : ℕ → Family → Services → Option BasicValue → State → Type 0) → Enough bl links k around.turns i h t acts jumped returned → HomeOf bl.frames d links k returned) → e.level ≤ 100 → line < 2 ^ 31 → Does bl links code around.turns (act_code line ++ home_code o) (M.statement around (Y.Return line))
unfolding M.statement returns ◌>>◌
own_home_does {e} bl links code around {o} d seen line homes few fits =
    record {
      does = λ {i} {s} {v} {h} {t} {aims} closed old n f k l serving all at goal more.
          let a = act_code line in
          let u' = unwound_to o.level 0 in
          let j = JumpTo (ReturnPlace o.number) ∷ [] in
          let c = home_code o in
          let out = homes i k h t v.world.acts aims.jumped aims.returned more in
          let total = size_append a c in
          let total2 = size_append u' j in
          let deeper = d.deeper in
          let short = unwound_size o.level (omega (arith, deeper, few)) in
          let inside = l.inside in
          let later = out.later in
          let next' : Unit {0} → Meaning (Unit {0}) = λ u. returns None in
          let l1 = back_of a c l in
          let s1 = with_world (counted s.world) s in
          let left' = all_ended (suc d.count) d.frame o.level bl.frames bl.frames.list (e.level ∷ bl.depths) d.behind d.depths s1 (storage v) refl d.rises d.beneath serving.nested (restricts_all seen (counted_all (counted s.world) all)) in
          let v2 = unwound_services (acted line v) left'.activation left'.rest in
          comes_on k (act counted k s) next'
          (act_to (before_closed k next' closed) i 0 f line old k fits (omega (arith, inside, total)) (front_of a c l) serving at
          (λ f1 serving1 at1.
          onward closed (unwound_piece bl d n 0 f1 left'.activation left'.rest few left'.found (front_of u' j l1) at1)
          (λ f2 at2.
          onward closed (jump_piece (0 + size_of u') out.at f2 (ReturnPlace o.number) out.at (omega (arith, later, short)) out.place out.near free_far (back_of u' j l1) at2)
          (λ f3 at3.
          record {
            to = λ early.
                out.leaves s1 v2 line n h f3 (bl.ground n).free
                (record {
                  world = serving1.world ∙ sym left'.world;
                  running = serving1.running;
                  line_is = serving1.line_is;
                  input = serving1.input ∙ sym left'.input;
                  allowed = serving1.allowed;
                  fits = serving1.fits;
                  nested = left'.nested;
                  waiting = serving1.waiting;
                  places = places_unwound v.edits d.frame v.activations left'.activation left'.rest left'.found serving1.places;
                })
                left'.all at3;
          }))));
    }

outer_home_does : {e : Environment} {block : Names} {types : Types} (bl : Block e block types) (links : Links) (code : List Instr) (around : Around) {o : OuterBlock} (d : Enclosing e o bl.ground bl.levels bl.frames.list (e.level ∷ bl.depths)) (seen : Restricts bl.serials block types d.serials d.names d.types) (line : ℕ) → ((i k : ℕ) (h t : ℕ → ℕ) (acts : ℕ) (jumped : ℕ → Family → Services → ℕ → Label → State → Type 0) (returned : ℕ → Family → Services → Option BasicValue → State → Type 0) → Enough bl links k around.turns i h t acts jumped returned → HomeOf bl.frames d links k returned) → e.owner ≡ BlockOwner (record { number = o.number; level = o.level }) → e.level ≤ 100 → line < 2 ^ 31 → Does bl links code around.turns (stmt_code e bl.taken (Y.Return line)) (M.statement around (Y.Return line))
outer_home_does {e} bl links code around {o} d seen line homes owned few fits =
    let deeper = d.deeper in
    let apart : (o.level == e.level) ≡ false = grind (arith, nat_tests) in
    subst (λ (w : Owner). Does bl links code around.turns (act_code line ++ returned_by e 0 w) (M.statement around (Y.Return line))) (sym owned)
    (subst (λ q. Does bl links code around.turns (act_code line ++ (cond q [] (unwound_to o.level 0) ++ JumpTo (ReturnPlace o.number) ∷ [])) (M.statement around (Y.Return line))) (sym apart)
    (own_home_does bl links code around d seen line homes few fits))

-- ---- where a called procedure's RETURN goes

-- its own block owns itself, or is owned by one around
abbrev pub IsOwnHome : Environment → Links → Type 0
IsOwnHome e links =
    ((0 == e.level) ≡ false) × ((e.owner ≡ BlockOwner (record { number = e.block; level = e.level })) × IsEndMarkedOnce links e.block)

abbrev pub OuterHome : Owner → Links → List OuterBlock → Type 0
OuterHome owner links [] = ⊥
OuterHome owner links (o ∷ os) =
    (((0 == o.level) ≡ false) × ((owner ≡ BlockOwner (record { number = o.number; level = o.level })) × IsEndMarkedOnce links o.number))
    ⊎ OuterHome owner links os

abbrev pub IsHome : Environment → Links → List OuterBlock → Type 0
IsHome e links os = IsOwnHome e links ⊎ OuterHome e.owner links os

home_among : {e : Environment} {block : Names} {types : Types} (bl : Block e block types) (links : Links) (code : List Instr) (around : Around) (line : ℕ) → e.level ≤ 100 → line < 2 ^ 31 → (os : List OuterBlock) (ds : Enclosures e bl.ground bl.levels bl.frames.list (e.level ∷ bl.depths) os) → AllSeen e bl.ground bl.levels bl.frames.list (e.level ∷ bl.depths) os ds bl.serials block types → ((i k : ℕ) (h t : ℕ → ℕ) (acts : ℕ) (jumped : ℕ → Family → Services → ℕ → Label → State → Type 0) (returned : ℕ → Family → Services → Option BasicValue → State → Type 0) → Enough bl links k around.turns i h t acts jumped returned → Homes e bl.ground bl.levels bl.frames (e.level ∷ bl.depths) os ds links k returned) → OuterHome e.owner links os → Does bl links code around.turns (stmt_code e bl.taken (Y.Return line)) (M.statement around (Y.Return line))
home_among bl links code around line few fits [] ds seen homes home = absurd home
home_among bl links code around line few fits (o ∷ os) ds seen homes (inl h) =
    outer_home_does bl links code around ds.0 seen.0 line (λ i k h' t acts jumped returned more. (homes i k h' t acts jumped returned more).0 h.0 h.1.0 h.1.1) h.1.0 few fits
home_among bl links code around line few fits (o ∷ os) ds seen homes (inr h) =
    home_among bl links code around line few fits os ds.1 seen.1 (λ i k h' t acts jumped returned more. (homes i k h' t acts jumped returned more).1) h

pub home_does : {e : Environment} {block : Names} {types : Types} (bl : Block e block types) (links : Links) (code : List Instr) (around : Around) (line : ℕ) → e.level ≤ 100 → line < 2 ^ 31 → IsHome e links bl.outer → Does bl links code around.turns (stmt_code e bl.taken (Y.Return line)) (M.statement around (Y.Return line))
home_does bl links code around line few fits (inl h) = own_end_does bl links code around line h.0 fits h.1.0 h.1.1
home_does bl links code around line few fits (inr h) =
    home_among bl links code around line few fits bl.outer bl.enclosing bl.seen (λ i k h' t acts jumped returned more. more.homes) h
