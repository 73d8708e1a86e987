-- The exchange's record: which records fit, and what is due on them (SPECIFICATION 9.1 to 9.3). Assumes nothing.
use Rattle.std.specs.Prelude.{ℕ, ◌+◌, List, Bool, true, false, cond, ◌&&◌, leb, ltb, eqb}
use Rattle.limits.specs.Limits.{version_most, kexinit_most, k_size, h_size, count_most, client, server}
use Rattle.limits.specs.Range.{within}
use Rattle.buffers.specs.Bytes.{zeros}
use Rattle.wire.specs.Strings.{number32}
use Rattle.sha_words.specs.Constants.{known}
use Rattle.methods.specs.Rows.{row_of}
use Rattle.methods.specs.Form.{length_fits}
use Rattle.methods.specs.declared.KForm.{KForm}
use Rattle.methods.specs.declared.KForm.TheVariants.{Mpint, Digest}
use Rattle.methods.specs.declared.Method.{Method}
use Rattle.exchange.specs.Causes.{method_ok, role_ok, blob_ok}
use Rattle.exchange.specs.declared.Stage.{Stage}
use Rattle.exchange.specs.declared.Stage.TheVariants.{Started, CSent, InitRead, ReplyRead, SecretDone, Complete, Failed}
use Rattle.exchange.specs.declared.Lengths.{Lengths}
use Rattle.exchange.specs.declared.Session.{Session}
use Rattle.exchange.specs.declared.Exchange.{Exchange}

-- no field is recorded
abbrev pub no_lengths : Lengths
no_lengths = record { vc = 0; vs = 0; ic = 0; is = 0; ks = 0; c = 0; s = 0 }

-- no exchange was completed
abbrev pub no_session : Session
no_session = record { id = zeros h_size; len = 0; count = 0 }

-- an exchange that a number ended: no lengths, no K, no H; its role, method and session kept; a refused start's are none
unfoldable pub ended : ℕ → ℕ → ℕ → Session → Exchange
ended n role m session = record { stage = Failed n; role = role; method = m; lens = no_lengths; k = zeros k_size; h = zeros h_size; session = session }

-- the step that comes next in a role: 1 own C, 2 INIT, 3 REPLY, 4 secret, 5 signature, 6 verdict, 0 none
abbrev pub client_next : Stage → ℕ
client_next Started = 1
client_next CSent = 3
client_next InitRead = 0
client_next ReplyRead = 4
client_next SecretDone = 6
client_next Complete = 0
client_next (Failed n) = 0

abbrev pub server_next : Stage → ℕ
server_next Started = 2
server_next CSent = 0
server_next InitRead = 4
server_next ReplyRead = 0
server_next SecretDone = 5
server_next Complete = 0
server_next (Failed n) = 0

abbrev pub next_step : ℕ → Stage → ℕ
next_step role stage = cond (eqb role client) (client_next stage) (cond (eqb role server) (server_next stage) 0)

-- which of C, K_S and S, and K, a stage has
abbrev pub has_c : Stage → Bool
has_c Started = false
has_c CSent = true
has_c InitRead = true
has_c ReplyRead = true
has_c SecretDone = true
has_c Complete = true
has_c (Failed n) = false

abbrev pub has_s : Stage → Bool
has_s Started = false
has_s CSent = false
has_s InitRead = false
has_s ReplyRead = true
has_s SecretDone = true
has_s Complete = true
has_s (Failed n) = false

abbrev pub has_k : Stage → Bool
has_k Started = false
has_k CSent = false
has_k InitRead = false
has_k ReplyRead = false
has_k SecretDone = true
has_k Complete = true
has_k (Failed n) = false

-- the recorded lengths fit a stage: both V and both I always; C, K_S and S where the stage has them, else 0
unfoldable pub c_fits : Method → Stage → Lengths → Bool
c_fits r stage l = cond (has_c stage) (length_fits r.c l.c) (eqb l.c 0)

unfoldable pub s_fits : Method → Stage → Lengths → Bool
s_fits r stage l = cond (has_s stage) (blob_ok l.ks && length_fits r.s l.s) (eqb l.ks 0 && eqb l.s 0)

unfoldable pub lengths_fit : Method → Stage → Lengths → Bool
lengths_fit r stage l =
    within 1 version_most l.vc && within 1 version_most l.vs && within 1 kexinit_most l.ic && within 1 kexinit_most l.is
    && c_fits r stage l && s_fits r stage l

-- K's length inside its record, its four length bytes included, and whether the method allows it
abbrev pub k_length : List ℕ → ℕ
k_length k = 4 + number32 k

abbrev pub k_body_fits : KForm → Method → ℕ → Bool
k_body_fits Mpint r n = leb n (r.x_len + 1) && cond r.zero_check (leb 1 n) true
k_body_fits Digest r n = eqb n r.digest_len

unfoldable pub k_fits : Method → Stage → List ℕ → Bool
k_fits r stage k = cond (has_k stage) (k_body_fits r.k_form r (number32 k)) true

-- a record says that it is complete
abbrev pub is_complete : Stage → Bool
is_complete Started = false
is_complete CSent = false
is_complete InitRead = false
is_complete ReplyRead = false
is_complete SecretDone = false
is_complete Complete = true
is_complete (Failed n) = false

-- the count fits: at most 4,294,967,295, not this one while not complete, and not 0 while complete
abbrev pub count_fits : Bool → ℕ → Bool
count_fits complete n = cond complete (within 1 count_most n) (ltb n count_most)

-- the identifier's length fits: 0 exactly where no exchange was completed, else a digest's. Its bytes are not judged
abbrev pub id_fits : ℕ → ℕ → Bool
id_fits len count = cond (eqb count 0) (eqb len 0) (known len)

unfoldable pub session_fits : Stage → Session → Bool
session_fits stage s = count_fits (is_complete stage) s.count && id_fits s.len s.count

-- what is recorded fits the stage: the method is one, lengths and K's length are as it has them, and the session's numbers fit. H, and K behind its
-- length, are not judged
unfoldable pub record_fits : Exchange → Bool
record_fits e =
    method_ok e.method
    && lengths_fit (row_of e.method) e.stage e.lens
    && k_fits (row_of e.method) e.stage e.k
    && session_fits e.stage e.session

-- a step is due: it is the role's next, and the record fits
unfoldable pub due : ℕ → Exchange → Bool
due n e = eqb (next_step e.role e.stage) n && record_fits e

-- an exchange is complete: its record says so, its role is one, and the record fits
unfoldable pub completed : Exchange → Bool
completed e = is_complete e.stage && role_ok e.role && record_fits e
