-- How a reply is told to the machine.
use Rattle.std.proofs.Common.{◌≡◌, ◌⊎◌, inl, inr, ℕ, Bool, true, false, List, length, Option, Some, None, Result, Ok}
use Rattle.std.proofs.Common.{Err}
use Rattle.std.proofs.Common.{refl, sym, subst, ap, ◌∙◌, arith}
use Rattle.std.specs.Prelude.{slice_index, MatchResult}
use Rattle.std.specs.List.{refill}
use Rattle.std.specs.Option.{is_some}
use Rattle.std.proofs.lemmas.Grind.{common_steps}
use Rattle.rv_machine.specs.declared.services.Served.{Served}
use Rattle.pli_answering.specs.Answering.{Replies}
use Rattle.pli_answering.specs.declared.reply.Reply.{Reply}
use Rattle.pli_answering.specs.declared.reply.Reply.TheVariants as R
use Rattle.pli_answering.specs.declared.reply.Refusal.{Refusal}
use Rattle.pli_answering.specs.declared.reply.Refusal.TheVariants as F
use Rattle.pli_serving.specs.Answers.{Answer}
use Rattle.pli_serving.specs.ServiceState.{Services}
use Rattle.pli_runtime.specs.Seen as runtime
use Rattle.pli_runtime.specs.Seen.{asks_input, fault_of}
use Rattle.pli_transmission.specs.Transmitting.{places_of}
use Rattle.pli_runtime.specs.declared.runtime.Runtime.{Runtime}
use Rattle.run_keeper.specs.RunKeeper.{run_keeper}
use Rattle.pli_serving.specs.Serving.{serves}
use Rattle.pli_services.specs.Shown.{world_of}
use Rattle.pli_environment.specs.Calling.{fault_in, seen_for, services_of, world_behind}
use Rattle.pli_environment.specs.Calling.{IsAnswered, IsAnsweredUnless, Serves, Streams}
use Rattle.pli_environment.specs.Replies.{Tells, TellsUnless}

pub refilled : (xs ys : List ℕ) → length ys ≡ length xs → refill (length xs) xs ys ≡ ys
refilled xs ys e = grind (arith, common_steps, e)

answered_as :
    (answer : Answer) (v v' : Services) (m m' : List ℕ) (reply : Result Reply Refusal) (x x' : List ℕ)
    (served : Served) →
    Replies answer v m reply v' m' → Tells reply x served x' →
    IsAnswered answer v (slice_index x) m served v' (slice_index x') m'
answered_as answer v v' m m' (Ok (R.Done a b)) x x' served s t =
    subst (λ (it : Served). IsAnswered answer v (slice_index x) m it v' (slice_index x') m') (sym t.0) (a, b, s, t.1)
answered_as answer v v' m m' (Ok R.Ended) x x' served s t =
    subst (λ (it : Served). IsAnswered answer v (slice_index x) m it v' (slice_index x') m') (sym t.0)
    (s.0, ap slice_index t.1, s.1)
answered_as answer v v' m m' (Err F.Bad) x x' served s t =
    subst (λ (it : Served). IsAnswered answer v (slice_index x) m it v' (slice_index x') m') (sym t.0)
    (s.0, s.1, ap slice_index t.1, s.2)
answered_as answer v v' m m' (Err F.Memory) x x' served s t =
    subst (λ (it : Served). IsAnswered answer v (slice_index x) m it v' (slice_index x') m') (sym t.0)
    (s.0, ap slice_index t.1, s.1)

-- a call that was served shows what it showed before, or what its answer shows
cut_off : (answer : Answer) (v v' : Services) (m m' : List ℕ) (reply : Result Reply Refusal) →
    Replies answer v m reply v' m' → (v'.world ≡ v.world) ⊎ (world_behind answer ≡ Some v'.world)
cut_off answer v v' m m' (Ok (R.Done a b)) s = inr (ap world_behind s)
cut_off answer v v' m m' (Ok R.Ended) s = inr (ap world_behind s.0)
cut_off answer v v' m m' (Err F.Bad) s = inl (ap (λ (it : Services). it.world) s.1)
cut_off answer v v' m m' (Err F.Memory) s = inl (ap (λ (it : Services). it.world) s.0)

pub answered_unless :
    (reads writes : Bool) (answer : Answer) (v v' : Services) (m m' : List ℕ) (reply : Result Reply Refusal)
    (x x' : List ℕ) (served : Served) →
    (reads ≡ false → Replies answer v m reply v' m') → (reads ≡ true → v'.world ≡ v.world) →
    TellsUnless (fault_of reads writes) reply x served x' →
    IsAnsweredUnless (fault_of reads writes) answer v (slice_index x) m served v' (slice_index x') m'
answered_unless false false answer v v' m m' reply x x' served s kept t =
    answered_as answer v v' m m' reply x x' served (s refl) t
answered_unless true false answer v v' m m' reply x x' served s kept t = (t, inl (kept refl))
answered_unless false true answer v v' m m' reply x x' served s kept t =
    (t, cut_off answer v v' m m' reply (s refl))
answered_unless true true answer v v' m m' reply x x' served s kept t = (t, inl (kept refl))

-- a read that failed was refused, and nothing is shown
pub kept_failed : (reply : Result Reply Refusal) (before behind : Bool) (same kept : Type 0) →
    MatchResult reply (λ _. before ≡ false → behind ≡ false) (λ _. same × kept) → before ≡ false → behind ≡ true → same
kept_failed (Ok r) before behind same kept h e f = absurd (cc (h e, f))
kept_failed (Err r) before behind same kept h e f = h.0

-- the call is of the services as they are kept and of the bytes as they are lent
pub serves_lent : {I O : Type 0} (s : Streams I O) (r inside r' : Runtime I O) (x x' : List ℕ)
    (m lent after m' : List ℕ) (reply : Result Reply Refusal) (served : Served) →
    inside ≡ r → lent ≡ m → m' ≡ after →
    ((all : List ℕ) → s.agrees r'.streams.input all → s.read_failed r'.streams.input ≡ false →
    runtime.IsServed run_keeper (λ c. serves c (slice_index x)) (seen_for s inside all) lent reply (seen_for s r' all)
    after) →
    MatchResult reply (λ _. s.read_failed inside.streams.input ≡ false → s.read_failed r'.streams.input ≡ false)
    (λ _. (world_of s.output r'.flow.shown ≡ world_of s.output inside.flow.shown) × (after ≡ lent)) →
    r'.held.layout ≡ inside.held.layout →
    (asks_input (places_of inside.streams.edits.items) (slice_index x 17) (slice_index x 11) ≡ false →
    r'.streams.input ≡ inside.streams.input) → s.follows inside.streams.input r'.streams.input →
    s.grows inside.flow.shown.output r'.flow.shown.output →
    TellsUnless (fault_in s r') reply x served x' → Serves s r (slice_index x) m served r' (slice_index x') m'
serves_lent {I = I} {O = O} s r inside r' x x' m lent after m' reply served inside_is lent_is left done kept layout
    unread follows grows told =
    subst (λ (it : List ℕ). Serves s r (slice_index x) m served r' (slice_index x') it) (sym left)
    (subst (λ (it : List ℕ). Serves s r (slice_index x) it served r' (slice_index x') after) lent_is
    (subst (λ (it : Runtime I O). Serves s it (slice_index x) lent served r' (slice_index x') after) inside_is
    (record {
      answered = λ unfailed all agreed.
          answered_unless (s.read_failed r'.streams.input) (s.write_failed r'.flow.shown.output) _
          (services_of s inside all) (services_of s r' all) lent after reply x x' served (done all agreed)
          (λ e. kept_failed reply _ _ _ _ kept unfailed e) told;
      layout_kept = layout;
      unread = unread;
      follows = follows;
      grows = grows;
    })))

pub none_some : (fault : Option ℕ) → false ≡ is_some fault → fault ≡ None
none_some None e = refl
none_some (Some n) e = absurd (cc e)

-- a reply is told as it is where no stream failed
pub told_whole : (fault : Option ℕ) (reply : Result Reply Refusal) (x : List ℕ) (served : Served) (x' : List ℕ) →
    fault ≡ None → Tells reply x served x' → TellsUnless fault reply x served x'
told_whole fault reply x served x' none told =
    subst (λ (it : Option ℕ). TellsUnless it reply x served x') (sym none) told
