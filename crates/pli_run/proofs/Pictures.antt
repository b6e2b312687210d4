-- An image in instructions has one list of them, and is loaded as a machine loads it.
use Rattle.std.proofs.Common.{◌≡◌, ℕ, suc, ◌*◌, List, [], ◌∷◌, Some, Err, length, map, refl, ap, subst, sym, ◌∙◌, arith}
use Rattle.std.proofs.Common.{append_assoc}
use Rattle.rv_meaning.specs.declared.instr.Instr.{Instr}
use Rattle.rv_meaning.specs.Encoding.{word_of}
use Rattle.rv_meaning.specs.Memory.{bytes_of_words}
use Rattle.rv_meaning.specs.Machine.{memory_size}
use Rattle.pli_meaning.specs.Pictures.{Picture, first_bytes}
use Rattle.rv_meaning.specs.Images.{Image}
use Rattle.pli_meaning.specs.InputLines.{first_input, Input}
use Rattle.pli_meaning.specs.Pictures.{loaded_at, first_machine}
use Rattle.image_runs.specs.Runs.{Runs, run_on, run_of, shown_by}
use Rattle.cut_runs.proofs.Runs.{runs_continue}
use Rattle.rv_meaning.specs.Tables.{TableSignature}
use Rattle.rv_meaning.specs.Machine.{Loaded, State}
use Rattle.pli_serving.specs.ServiceState.{Services, first_services}
use Rattle.std.proofs.lemmas.List.{length-map}
use Rattle.rv_machine.specs.Operations.{instr_of}
use Rattle.rv_machine.specs.Loading.{loaded_of, state_of, moment, IsStarted}
use Rattle.rv_machine.specs.declared.machine.Machine.{Machine}
use Rattle.rv_machine.specs.declared.machine.Step.{Step}
use Rattle.pli_runtime.specs.Seen.{run_seen, running}
use Rattle.pli_runtime.specs.declared.runtime.Runtime.{Runtime}
use Rattle.pli_environment.specs.Calling.{services_of, Streams}
use Rattle.pli_run.proofs.Stepping.{none_on}
use Rattle.pli_run.proofs.Stopped.{run_from}
use Rattle.pli_run.specs.Stopping.{IsStopped}
use Rattle.rv_isa.proofs.Unique.{same}
use Rattle.rv_machine.specs.Fitting.{AllFit}
use Rattle.rv_machine.specs.Placing.{first_memory, AreDecoded}
use Rattle.pli_meaning.specs.World.{first_world}
use Rattle.pli_run.specs.declared.run.RunFault.{RunFault}
use Rattle.pli_run.specs.declared.run.RunFault.TheVariants.{Memory, BadBase, Source, Read, Write, Machine as Fails}
use Rattle.pli_run.specs.Running.{IsPicture, IsTabled, IsUnstarted, Shows, Tells}

length-words : (ws : List ℕ) → length (bytes_of_words ws) ≡ 4 * length ws
length-words [] = refl
length-words (w ∷ ws) = omega (arith, length-words ws)

pub same_code : (code other : List Instr) → AllFit code → AllFit other → map word_of code ≡ map word_of other →
    code ≡ other
same_code [] [] f g e = refl
same_code [] (j ∷ js) f g e = absurd (cc)
same_code (i ∷ is) [] f g e = absurd (cc)
same_code (i ∷ is) (j ∷ js) f g e =
    let words : word_of i ≡ word_of j = cc in
    let rest : map word_of is ≡ map word_of js = cc in
    let first : i ≡ j = same i j (f 0 i refl) (g 0 j refl) words in
    let behind = same_code is js (λ k. f (suc k)) (λ k. g (suc k)) rest in
    cc

pub picture_code : (p : Picture) (image : Image) (code : List Instr) → IsPicture p image → AreDecoded image.code code →
    p.code ≡ code
picture_code p image code h d = same_code p.code code h.fit d.fit (h.words_are ∙ sym d.words_are)

pub picture_bytes : (p : Picture) (image : Image) → IsPicture p image → first_memory memory_size image ≡ first_bytes p
picture_bytes p image h = rw (h.words_are, h.statics_are, length-words image.code) (simp append_assoc)

pub started_code : (image : Image) (base : ℕ) (m : Machine) → IsStarted image base m →
    4 * length image.code ≡ 4 * length (loaded_of m).code
started_code image base m h =
    let words = ap length (sym h.decoded.words_are) ∙ length-map (map instr_of m.code.items) word_of in
    ap (λ (n : ℕ). 4 * n) words

-- the services before the first call are those of the definitions
services_first : {I O : Type 0} (s : Streams I O) (r : Runtime I O) (input : I) (all bytes : List ℕ) (v : Services) →
    r.streams.input ≡ input → s.input input all ≡ first_input bytes →
    running (run_seen s.output r (first_input bytes)) ≡ v → services_of s r all ≡ v
services_first {I = I} s r input all bytes v here begins is =
    ap (λ (i : Input). running (run_seen s.output r i)) (ap (λ (i : I). s.input i all) here ∙ begins) ∙ is

-- a program stands where a machine runs it
pub started_place : (p : Picture) (image : Image) (base : ℕ) (m : Machine) → IsPicture p image →
    IsStarted image base m →
    loaded_at p base ≡ loaded_of m
started_place p image base m h started =
    let code : p.code ≡ map instr_of m.code.items = picture_code p image _ h started.decoded in
    rw (code, started.based) refl

pub started_run : {I O : Type 0} (s : Streams I O) (p : Picture) (gs : List TableSignature) (image : Image) (base : ℕ)
    (bytes all : List ℕ) (bound : ℕ) (m : Machine) (r : Runtime I O) → IsPicture p image → IsStarted image base m →
    services_of s r all ≡ first_services gs bytes →
    run_of p gs base bytes bound ≡ run_from s (loaded_of m) (moment r m) all bound
started_run s p gs image base bytes all bound m r h started service =
    let code : p.code ≡ map instr_of m.code.items = picture_code p image _ h started.decoded in
    let place : loaded_at p base ≡ loaded_of m = started_place p image base m h started in
    let state : first_machine p base ≡ state_of m = sym (started.state_is ∙ rw (picture_bytes p image h, h.entry_is)
    refl) in
    ap (λ (l : Loaded). run_on bound l
    (Runs (record { machine = first_machine p base; services = first_services gs bytes }))) place
    ∙ ap (λ (s : State). run_on bound (loaded_of m)
    (Runs (record { machine = s; services = first_services gs bytes }))) state
    ∙ ap (λ (v : Services). run_on bound (loaded_of m) (Runs (record { machine = state_of m; services = v })))
    (sym service)

-- a run as the definitions name it, by the bound
pub image_run : {I O : Type 0} (s : Streams I O) (image : Image) (base : ℕ) (input : I) (output : O) (bound : ℕ)
    (last : Step)
    (r : Runtime I O) (stop : IsStopped s image base input output bound last r) (p : Picture) (gs : List TableSignature)
    (bytes all : List ℕ) → IsPicture p image → IsTabled gs image → s.input input all ≡ first_input bytes →
    run_of p gs base bytes ≡ run_from s (loaded_of stop.machine) (moment stop.first stop.machine) all
image_run s image base input output bound last r stop p gs bytes all h tabled begins = λ i n.
    started_run s p gs image base bytes all n stop.machine stop.first h stop.started
    (services_first s stop.first input all bytes _ stop.input_is begins
    (stop.services_are gs tabled.fit tabled.spelled bytes)) i

-- want of memory before the first instruction
pub unstarted_shows : (p : Picture) (gs : List TableSignature) (base : ℕ) (input : List ℕ) (bound : ℕ)
    (output taken : List ℕ) (f : RunFault) → IsUnstarted f → output ≡ [] →
    Shows (run_of p gs base input) bound output taken (Err f)
unstarted_shows p gs base input bound output taken (Memory acts own) h none =
    let first : shown_by (run_of p gs base input 0) ≡ Some first_world =
    ap shown_by (none_on (loaded_at p base) _) in
    record {
      done = 0;
      within = omega arith;
      shows = record {
        world = first_world;
        shown = first;
        acts_are = h.0;
        output_is = none;
        goes_on = λ more later n is. runs_continue p gs base input 0 more first_world later n first is;
      };
    }
unstarted_shows p gs base input bound output taken BadBase h none = absurd h
unstarted_shows p gs base input bound output taken (Source fault) h none = absurd h
unstarted_shows p gs base input bound output taken (Read acts own) h none = absurd h
unstarted_shows p gs base input bound output taken (Write acts own) h none = absurd h
unstarted_shows p gs base input bound output taken (Fails fault acts own) h none = absurd h

pub unstarted_tells : (p : Picture) (gs : List TableSignature) (base : ℕ) (input : List ℕ) (bound : ℕ) (f : RunFault) →
    IsUnstarted f → Tells (run_of p gs base input) bound (Err f)
unstarted_tells p gs base input bound (Memory acts own) h =
    unstarted_shows p gs base input bound own.items own.items (Memory acts own) h h.1
unstarted_tells p gs base input bound BadBase h = absurd h
unstarted_tells p gs base input bound (Source fault) h = absurd h
unstarted_tells p gs base input bound (Read acts own) h = absurd h
unstarted_tells p gs base input bound (Write acts own) h = absurd h
unstarted_tells p gs base input bound (Fails fault acts own) h = absurd h
