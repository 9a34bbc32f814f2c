-- Streams with the same frames have the same output.
use Rattle.std.proofs.Common.{◌≡◌, ℕ, Bool, true, false, List, [], ◌∷◌, length, refl, sym, ap, ap₂, subst, arith, inl, inr}
use Rattle.std.specs.Prelude.{◌≢◌, ◌⊎◌, ◌==◌, if◌then◌else◌}
use Rattle.std.proofs.lemmas.Bool.Decides.{eqb_tells}
use Rattle.std.specs.List.{AllByRecursion}
use Rattle.std.specs.Io.KnownBytes.{Appends}
use Rattle.command_frames.specs.Frame.{owner}
use Rattle.tenant.specs.Alone.{replies_of}
use Rattle.host_core.specs.Served.{Noninterference, joined_replies}
use Rattle.host_core.specs.Laws.{SameFramesSameReplies, BeginsAlike, SameFramesSameOutput}

all_to : {X : Type 0} (P Q : X → Type 0) (xs : List X)
    → ((x : X) → P x → Q x) → AllByRecursion P xs → AllByRecursion Q xs
all_to P Q [] f all = tt
all_to P Q (x ∷ xs) f all = (f x all.0, all_to P Q xs f all.1)

-- if two lists with an optional first element are equal, so are the lists without it
same_later : (b : Bool) (x y : List ℕ) (xs ys : List (List ℕ))
    → (if b then x ∷ xs else xs) ≡ (if b then y ∷ ys else ys) → xs ≡ ys
same_later true x y xs ys e = cc
same_later false x y xs ys e = e

is_itself : (n : ℕ) → (n == n) ≡ true
is_itself n = by (eqb_tells n n)
  where
    by : ((n == n) ≡ true) × (n ≡ n) ⊎ ((n == n) ≡ false) × (n ≢ n) → (n == n) ≡ true
    by (inl seen) = seen.0
    by (inr seen) = absurd (seen.1 refl)

same_first : (n : ℕ) (x y : List ℕ) (xs ys : List (List ℕ))
    → (if n == n then x ∷ xs else xs) ≡ (if n == n then y ∷ ys else ys) → x ≡ y
same_first n x y xs ys e =
    let in_front = subst (λ (b : Bool). (if b then x ∷ xs else xs) ≡ (if b then y ∷ ys else ys)) (is_itself n) e in
    cc in_front

-- if each tenant has the same replies, all replies are the same
replies_agree : (frames replies others : List (List ℕ))
    → length replies ≡ length frames → length others ≡ length frames
    → AllByRecursion (λ frame. replies_of (owner frame) frames replies ≡ replies_of (owner frame) frames others) frames
    → replies ≡ others
replies_agree [] [] [] paired paired_too agree = refl
replies_agree [] (r ∷ rs) others paired paired_too agree = absurd (omega arith)
replies_agree [] [] (q ∷ qs) paired paired_too agree = absurd (omega arith)
replies_agree (f ∷ fs) [] others paired paired_too agree = absurd (omega arith)
replies_agree (f ∷ fs) (r ∷ rs) [] paired paired_too agree = absurd (omega arith)
replies_agree (f ∷ fs) (r ∷ rs) (q ∷ qs) paired paired_too agree =
    let first = same_first (owner f) r q (replies_of (owner f) fs rs) (replies_of (owner f) fs qs) agree.0 in
    let later =
    all_to (λ g. replies_of (owner g) (f ∷ fs) (r ∷ rs) ≡ replies_of (owner g) (f ∷ fs) (q ∷ qs))
    (λ g. replies_of (owner g) fs rs ≡ replies_of (owner g) fs qs)
    fs
    (λ g e. same_later (owner f == owner g) r q (replies_of (owner g) fs rs) (replies_of (owner g) fs qs) e) agree.1 in
    ap₂ (λ (x : List ℕ) (xs : List (List ℕ)). x ∷ xs) first (replies_agree fs rs qs (omega arith) (omega arith) later)

-- two streams with the same frames, from the same states of their tenants, have the same replies and output
pub same_frames_same_output : SameFramesSameReplies → SameFramesSameOutput
same_frames_same_output law old new old_too new_too count count_too rest rest_too one other same alike =
    let paired : length one.replies ≡ length one.frames = omega (arith, one.many.0, one.many.1) in
    let paired_too : length other.replies ≡ length one.frames =
    omega (arith, other.many.0, other.many.1, ap length same) in
    let alone_too =
    subst (λ (frames : List (List ℕ)). Noninterference old_too.states frames other.replies new_too.states)
    (sym same) other.alone in
    let agree =
    all_to (λ frame. BeginsAlike old.states new.states old_too.states new_too.states (owner frame))
    (λ frame. replies_of (owner frame) one.frames one.replies ≡ replies_of (owner frame) one.frames other.replies)
    one.frames
    (λ frame is.
    law (owner frame) old.states new.states old_too.states new_too.states one.frames one.replies
    one.frames other.replies one.alone alone_too is.unrefused
    is.unrefused_too is.same refl)
    alike in
    let replies_are = replies_agree one.frames one.replies other.replies paired paired_too agree in (
      replies_are,
      joined_replies one.replies,
      one.written,
      subst (λ (replies : List (List ℕ)). Appends old_too.output new_too.output (joined_replies replies))
          (sym replies_are) other.written,
    )
