-- The causes on what the caller hands in and on what the peer sent (SPECIFICATION 2.4, 9.5 to 9.11, 11.1.2): for the start and each step the first that holds.
-- Steps and book share these, the wire encodings and the method row. Assumes nothing.
use Rattle.std.specs.Prelude.{ℕ, List, [], ◌∷◌, ◌++◌, Bool, true, false, cond, not, ◌&&◌, ◌||◌, length, get_or, ltb, eqb}
use Rattle.limits.specs.Limits.{version_most, kexinit_most, blob_most, k_pq_size, h_size, k_size, count_most, room_least, init_least, reply_least, method_last, client, server}
use Rattle.limits.specs.Range.{within}
use Rattle.wire.specs.Causes.{cause_if, cause_unless, or_else}
use Rattle.sha_words.specs.Message.{sha2, sized}
use Rattle.messages.specs.Payload.{message_cause}
use Rattle.messages.specs.Messages.{init_layout, reply_layout, field_of}
use Rattle.methods.specs.Rows.{hybrid, row_of}
use Rattle.methods.specs.Form.{length_fits, lead_fits, formed}
use Rattle.methods.specs.declared.Method.{Method}
use Rattle.secret.specs.Secret.{k_bytes, leading_zeros}
use Rattle.exchange.specs.declared.Classical.{Classical}
use Rattle.exchange.specs.declared.Classical.TheVariants.{Failed as NoX, Given}
use Rattle.exchange.specs.declared.Kem.{Kem}
use Rattle.exchange.specs.declared.Kem.TheVariants.{Absent, Failed as NoKem, Done}

-- ---- fields

-- bytes of which none is 0, 10 or 13
abbrev pub plain : List ℕ → Bool
plain [] = true
plain (b ∷ v) = not (eqb b 0) && not (eqb b 10) && not (eqb b 13) && plain v

-- V: 1 to 253 of them
unfoldable pub version_ok : List ℕ → Bool
version_ok v = within 1 version_most (length v) && plain v

-- I: the first byte 20
unfoldable pub kexinit_ok : List ℕ → Bool
kexinit_ok i = within 1 kexinit_most (length i) && eqb (get_or i 0 0) 20

-- K_S and signature
abbrev pub blob_ok : ℕ → Bool
blob_ok n = within 1 blob_most n

unfoldable pub method_ok : ℕ → Bool
method_ok m = within 1 method_last m

unfoldable pub role_ok : ℕ → Bool
role_ok r = within client server r

-- ---- start

unfoldable pub start_cause : ℕ → ℕ → List ℕ → List ℕ → List ℕ → List ℕ → ℕ → ℕ
start_cause role m vc vs ic is room =
    cause_unless (method_ok m && role_ok role) 2
    (cause_if (ltb room room_least) 3
    (cause_unless (version_ok vc && version_ok vs && kexinit_ok ic && kexinit_ok is) 4 0))

-- ---- to begin again: 2, 3 and 4 as at start, with both V taken unjudged; then that no more exchanges can be counted

unfoldable pub again_cause : ℕ → List ℕ → List ℕ → ℕ → ℕ → ℕ
again_cause m ic is room count =
    cause_unless (method_ok m) 2
    (cause_if (ltb room room_least) 3
    (cause_unless (kexinit_ok ic && kexinit_ok is) 4
    (cause_if (eqb count count_most) 23 0)))

-- ---- own C

unfoldable pub own_c_cause : ℕ → List ℕ → ℕ → ℕ
own_c_cause m c out = cause_unless (formed (row_of m).c c) 4 (cause_if (ltb out init_least) 5 0)

-- ---- INIT

unfoldable pub init_cause : ℕ → List ℕ → ℕ
init_cause m p =
    or_else (message_cause init_layout p)
    (cause_unless (length_fits (row_of m).c (length (field_of p 0))) 14
    (cause_unless (lead_fits (row_of m).c (field_of p 0)) 15 0))

-- ---- REPLY: 14 looks at all fields, in wire order, before 15 looks at any

unfoldable pub reply_cause : ℕ → List ℕ → ℕ
reply_cause m p =
    or_else (message_cause reply_layout p)
    (cause_unless (blob_ok (length (field_of p 0)) && length_fits (row_of m).s (length (field_of p 1)) && blob_ok (length (field_of p 2))) 14
    (cause_unless (lead_fits (row_of m).s (field_of p 1)) 15 0))

-- ---- secret

-- the number that the classical primitive states is the method's, and X has exactly that many bytes; a failed one has no X to look at
abbrev pub x_ok : Method → Classical → List ℕ → Bool
x_ok r NoX x = true
x_ok r (Given n) x = eqb n r.x_len && eqb (length x) r.x_len

-- a KEM's outcome is there exactly in the hybrids
abbrev pub present : Kem → Bool
present Absent = false
present NoKem = true
present Done = true

abbrev pub kem_ok : Method → Kem → Bool
kem_ok r kem = cond (hybrid r.k_form) (present kem) (not (present kem))

-- K_PQ: 32 bytes exactly when the KEM is done, else none, whatever the classical primitive gave
abbrev pub k_pq_for : Kem → ℕ
k_pq_for Absent = 0
k_pq_for NoKem = 0
k_pq_for Done = k_pq_size

abbrev pub k_pq_ok : Kem → List ℕ → Bool
k_pq_ok kem k_pq = eqb (length k_pq) (k_pq_for kem)

-- a server hands in K_S and its own S; a client's are not looked at
abbrev pub own_ok : ℕ → Method → List ℕ → List ℕ → Bool
own_ok role r ks s = cond (eqb role server) (blob_ok (length ks) && formed r.s s) true

-- all that the secret step is handed beside X
unfoldable pub rest_ok : ℕ → Method → Kem → List ℕ → List ℕ → List ℕ → Bool
rest_ok role r kem k_pq ks s = kem_ok r kem && k_pq_ok kem k_pq && own_ok role r ks s

-- X failed, or is all zero where the check is on
abbrev pub all_zero : List ℕ → Bool
all_zero x = eqb (leading_zeros x) (length x)

abbrev pub x_bad : Method → Classical → List ℕ → Bool
x_bad r NoX x = true
x_bad r (Given n) x = r.zero_check && all_zero x

abbrev pub kem_bad : Kem → Bool
kem_bad Absent = false
kem_bad NoKem = true
kem_bad Done = false

unfoldable pub secret_cause : ℕ → ℕ → Classical → List ℕ → Kem → List ℕ → List ℕ → List ℕ → ℕ
secret_cause role m cl x kem k_pq ks s =
    cause_unless (x_ok (row_of m) cl x && rest_ok role (row_of m) kem k_pq ks s) 4
    (cause_if (x_bad (row_of m) cl x) 16
    (cause_if (kem_bad kem) 17 0))

-- K, in the method's form; a hybrid's digest is the method's hash of K_PQ and then X
abbrev pub k_of : ℕ → List ℕ → List ℕ → List ℕ
k_of m x k_pq = k_bytes (row_of m).k_form x (sha2 (row_of m).digest_len (k_pq ++ x))

-- H of a hash input, by the method's hash: 64 bytes, zeros behind the digest
abbrev pub h_of : ℕ → List ℕ → List ℕ
h_of m input = sized h_size (sha2 (row_of m).digest_len input)

-- ---- signature

unfoldable pub sign_cause : List ℕ → ℕ → ℕ → ℕ
sign_cause signature out k_out =
    cause_unless (blob_ok (length signature)) 4
    (cause_if (ltb out reply_least || ltb k_out k_size) 5 0)

-- ---- verdict

unfoldable pub verdict_cause : Bool → Bool → ℕ → ℕ
verdict_cause signature host_key k_out =
    cause_if (ltb k_out k_size) 5
    (cause_unless (signature && host_key) 18 0)
