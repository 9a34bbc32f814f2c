-- A batch gives the same replies and the same state as its frames, one after another.
use Rattle.std.proofs.Common.{◌≡◌, ℕ, suc, Bool, true, false, List, [], ◌∷◌, length, Option, Some, None, refl, sym, ap, subst}
use Rattle.std.specs.Prelude.{nat_lt, if◌then◌else◌, Result}
use Rattle.byteorder.specs.Endian.{little_bytes}
use Rattle.command_frames.specs.declared.command.BadFrame.{BadFrame}
use Rattle.command_frames.specs.Command.{Command}
use Rattle.tenant.specs.Alone.{IsFrameResult}
use Rattle.tenant.specs.Batch.{RunsInOrder, BatchIsItsFrames, RefusedAsItsFrame, OneResultEach, run_refusal}
use Rattle.tenant.specs.declared.errno.Errno.{Errno}
use Rattle.tenant.specs.declared.errno.Errno.TheVariants.{TooBig, BadDescriptor, Invalid}
use Rattle.tenant.specs.declared.object.OpenObject.{OpenObject}
use Rattle.tenant.specs.declared.object.OpenObject.TheVariants as object
use Rattle.fd_table.specs.Table.{named}
use Rattle.tenant.specs.Loaded.{LoadedProgram}
use Rattle.tenant.specs.Machine.{gives, refuses, ran, run_of, longest_packet}
use Rattle.tenant.specs.State.{TenantState}

pub batch_is_its_frames : BatchIsItsFrames
unfolding RunsInOrder
batch_is_its_frames fd [] [] [] before after tests runs = ap (λ (s : TenantState). Some s) runs
batch_is_its_frames fd [] [] (result ∷ results) before after tests runs = absurd runs
batch_is_its_frames fd [] (input ∷ inputs) results before after tests runs = absurd tests
batch_is_its_frames fd (frame ∷ frames) [] results before after tests runs = absurd tests
batch_is_its_frames fd (frame ∷ frames) (input ∷ inputs) [] before after tests runs = absurd runs
batch_is_its_frames fd (frame ∷ frames) (input ∷ inputs) (result ∷ results) before after tests runs =
    let (between, seen, rest) = runs in
    let answer = gives (little_bytes 4 result) between in
    let answers = subst (λ (r : Result Command BadFrame). IsFrameResult false before r answer) (sym tests.0) seen in (
      Some between,
      (false, (answer, answers, refl, refl)),
      batch_is_its_frames fd frames inputs results between after tests.1 rest,
    )

-- runs of a program on packets have one result for each packet
pub one_result_each : OneResultEach
unfolding RunsInOrder
one_result_each fd [] [] before after runs = refl
one_result_each fd [] (result ∷ results) before after runs = absurd runs
one_result_each fd (input ∷ inputs) [] before after runs = absurd runs
one_result_each fd (input ∷ inputs) (result ∷ results) before after runs =
    let (between, seen, rest) = runs in ap (λ (n : ℕ). suc n) (one_result_each fd inputs results between after rest)

refused_by : (s : TenantState) (answer : Errno) (errno : Errno)
    → Some answer ≡ Some errno → refuses errno s ≡ refuses answer s
refused_by s answer errno same = let is : errno ≡ answer = cc in ap (λ (e : Errno). refuses e s) is

long_by : (s : TenantState) (l : LoadedProgram) (words packet : List ℕ) (errno : Errno) (b : Bool)
    → (if b then Some TooBig else None) ≡ Some errno
    → refuses errno s ≡ (if b then refuses TooBig s else ran s l words packet)
long_by s l words packet errno true same = refused_by s TooBig errno same
long_by s l words packet errno false same = cc

refused_object : (s : TenantState) (words packet : List ℕ) (errno : Errno) (o : Option OpenObject)
    → run_refusal o (length packet) ≡ Some errno → refuses errno s ≡ run_of s words packet o
refused_object s words packet errno None same = refused_by s BadDescriptor errno same
refused_object s words packet errno (Some (object.Map handle)) same = refused_by s Invalid errno same
refused_object s words packet errno (Some (object.Program l)) same =
    long_by s l words packet errno (nat_lt longest_packet (length packet)) same

-- the error of a run on a packet is that of the test-run command of the packet
pub refused_as_its_frame : RefusedAsItsFrame
refused_as_its_frame s fd words packet errno same = refused_object s words packet errno (named s.objects fd) same
