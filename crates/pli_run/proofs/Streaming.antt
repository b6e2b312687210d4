-- Runs between a feed and a drain.
use Rattle.std.proofs.Common.{◌≡◌, ℕ, Bool, true, false, List, [], ◌∷◌, ◌++◌, length, drop, Option, None, Result, Ok}
use Rattle.std.proofs.Common.{Err}
use Rattle.std.proofs.Common.{refl, ap, subst, sym, ◌∙◌, append-nil}
use Rattle.rv_meaning.specs.Images.{Image}
use Rattle.pli_edit.specs.Drained.{taken_since, IsDrained}
use Rattle.pli_edit.specs.Feeding.{first_fed, is_broken, Agrees, Fed}
use Rattle.pli_edit.specs.Handing.{fruitless}
use Rattle.pli_edit.specs.Histories.{History}
use Rattle.pli_edit.specs.Streams.{first_held, input_of, Follows, Held}
use Rattle.pli_language.specs.declared.fault.SourceFault.{SourceFault}
use Rattle.pli_meaning.specs.InputLines.{first_input, marks_of, Input}
use Rattle.pli_meaning.specs.declared.outcome.Outcome.{Outcome}
use Rattle.pli_runtime.specs.Seen.{fault_of}
use Rattle.pli_compile.specs.Compiling.{IsImageFor}
use Rattle.pli_run.specs.declared.run.RunFault.{RunFault}
use Rattle.pli_run.specs.declared.run.RunFault.TheVariants as F
use Rattle.pli_run.specs.declared.run.Traced.{Traced}
use Rattle.pli_run.specs.Answering.{IsUncompiledFor}
use Rattle.pli_run.specs.Running.{stream_fault_of}
use Rattle.pli_run.specs.Streaming.{IsStreamed}
use Rattle.pli_run.specs.Tracing.{TracesImage, TracesSource}

drop_front : (xs ys : List ℕ) → drop (length xs) (xs ++ ys) ≡ ys
drop_front [] ys = refl
drop_front (x ∷ xs) ys = drop_front xs ys

-- an input begins where the run does
pub begins_there : (h : History) (input : List ℕ) → input_of (first_held h) (h.bytes ++ input) ≡ first_input input
begins_there h input =
    ap (λ (l : List ℕ). let i : Input = record { marks = marks_of false l; column = 1 } in i) (drop_front h.bytes input)

-- a run that began with a feed and a drain, and gave them back
pub streamed : {ran : Result Outcome RunFault} {claim : List ℕ → List ℕ → List ℕ → Type 0}
    (feed drain feed' drain' : History) (first last : Held) (output so_far : List ℕ) (write_failed : Bool) →
    first ≡ first_held feed → Follows first last →
    feed' ≡ last.marked.fed.history → IsDrained drain output write_failed drain' →
    so_far ≡ taken_since drain drain' →
    stream_fault_of ran ≡ fault_of (is_broken last.marked.fed.standing) write_failed →
    ((bytes all : List ℕ) → input_of first all ≡ first_input bytes → Agrees last.marked.fed all →
    claim bytes output so_far) →
    IsStreamed feed drain ran feed' drain' claim
streamed {claim = claim} feed drain feed' drain' first last output so_far write_failed begins follows given taken same
    faults told =
    let from_first : Follows (first_held feed) last = subst (λ (h : Held). Follows h last) begins follows in
    record {
      fed = last.marked.fed;
      readings = from_first.0;
      reads = from_first.1;
      given = given;
      output = output;
      write_failed = write_failed;
      taken = taken;
      faults = faults;
      claimed = λ input agrees.
          subst (λ (l : List ℕ). claim input output l) same
          (told input (feed.bytes ++ input)
          (ap (λ (h : Held). input_of h (feed.bytes ++ input)) begins ∙ begins_there feed input) agrees);
    }

-- an input that nothing was read of agrees with all that begins there
agrees_first : (h : History) (input : List ℕ) → Agrees (first_fed h) (h.bytes ++ input)
agrees_first h input = (ap (λ (l : List ℕ). h.bytes ++ l) (sym (drop_front h.bytes input)), λ e. absurd (cc e))

-- a run that read nothing leaves its feed as it was
pub unread_so : (feed feed' : History) (first last : Held) (input : List ℕ) → first ≡ first_held feed →
    feed' ≡ last.marked.fed.history →
    ((all : List ℕ) → input_of first all ≡ first_input input → Agrees first.marked.fed all → last ≡ first) →
    feed' ≡ feed
unread_so feed feed' first last input begins given unread =
    let all = feed.bytes ++ input in
    let here : input_of first all ≡ first_input input =
    ap (λ (h : Held). input_of h all) begins ∙ begins_there feed input in
    let agreed : Agrees first.marked.fed all =
    subst (λ (h : Held). Agrees h.marked.fed all) (sym begins) (agrees_first feed input) in
    given ∙ ap (λ (h : Held). h.marked.fed.history) (unread all here agreed ∙ begins)

-- nothing was read and nothing written
pub unstreamed : {claim : List ℕ → List ℕ → List ℕ → Type 0} (feed drain : History) (ran : Result Outcome RunFault)
    (feed' drain' : History) → feed' ≡ feed → drain' ≡ drain → stream_fault_of ran ≡ None →
    ((input taken : List ℕ) → claim input [] taken) → IsStreamed feed drain ran feed' drain' claim
unstreamed feed drain ran feed' drain' here there whole claimed = record {
  fed = first_fed feed;
  readings = [];
  reads = refl;
  given = here;
  output = [];
  write_failed = false;
  taken = (ap (λ (h : History). h.bytes) there ∙ sym (append-nil drain.bytes), ap fruitless there);
  faults = whole;
  claimed = λ input agrees. claimed input _;
}

pub streamed_for : {feed drain : History} {ran : Result Outcome RunFault} {feed' drain' : History}
    {one other : List ℕ → List ℕ → List ℕ → Type 0} →
    ((input output taken : List ℕ) → one input output taken → other input output taken) →
    IsStreamed feed drain ran feed' drain' one → IsStreamed feed drain ran feed' drain' other
streamed_for then h = record {
  fed = h.fed;
  readings = h.readings;
  reads = h.reads;
  given = h.given;
  output = h.output;
  write_failed = h.write_failed;
  taken = h.taken;
  faults = h.faults;
  claimed = λ input agrees. then input h.output _ (h.claimed input agrees);
}

pub uncompiled_whole : (fault : SourceFault) (r : RunFault) → IsUncompiledFor fault r → stream_fault_of (Err r) ≡ None
uncompiled_whole fault (F.Memory acts output) h = refl
uncompiled_whole fault F.BadBase h = absurd h
uncompiled_whole fault (F.Source told) h = refl
uncompiled_whole fault (F.Read acts output) h = absurd h
uncompiled_whole fault (F.Write acts output) h = absurd h
uncompiled_whole fault (F.Machine other acts output) h = absurd h

pub traces_source : {s : List ℕ} {image : Image} → IsImageFor s image → (base : ℕ) (input : List ℕ) (bound : ℕ)
    (ran : Result Traced RunFault) → TracesImage image base input bound ran → TracesSource s input base bound ran
traces_source {image = image} compiled base input bound (Ok t) traces = (image, compiled, traces)
traces_source compiled base input bound (Err f) traces = tt
