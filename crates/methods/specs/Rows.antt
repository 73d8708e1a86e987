-- The table of methods, line for line (SPECIFICATION 5.1). Assumes nothing.
use Rattle.std.specs.Prelude.{ℕ, ◌+◌, ◌-◌, List, [], ◌∷◌, ◌++◌, Bool, true, false, cond, length, take, eqb}
use Prim.Native.String.{String}
use Rattle.buffers.specs.Bytes.{zeros, same}
use Rattle.methods.specs.Ascii.{ascii}
use Rattle.methods.specs.declared.KForm.{KForm}
use Rattle.methods.specs.declared.KForm.TheVariants.{Mpint, Digest}
use Rattle.methods.specs.declared.Method.{Method}

-- a row: number, name, lengths of C, S and X, K's form, whether a zero X is refused, the digest's length; then the KEM's share of C
-- and of S, which comes ahead of the classical part, and whether that part is a NIST point
abbrev pub row : ℕ → String → ℕ → ℕ → ℕ → KForm → Bool → ℕ → ℕ → ℕ → Bool → Method
row number name c s x form zero digest kem-c kem-s point = record {
  number = number;
  name = ascii name ++ zeros (28 - length (ascii name));
  name_len = length (ascii name);
  c = record { len = c; classical = kem-c; point = point };
  s = record { len = s; classical = kem-s; point = point };
  x_len = x;
  k_form = form;
  zero_check = zero;
  digest_len = digest;
}

unfoldable pub rows : List Method
rows =
    -- no. name C S X K zero digest | KEM in C, in S, NIST point
    row 1 "curve25519-sha256" 32 32 32 Mpint true 32 0 0 false
    ∷ row 2 "curve25519-sha256@libssh.org" 32 32 32 Mpint true 32 0 0 false
    ∷ row 3 "curve448-sha512" 56 56 56 Mpint true 64 0 0 false
    ∷ row 4 "ecdh-sha2-nistp256" 65 65 32 Mpint false 32 0 0 true
    ∷ row 5 "ecdh-sha2-nistp384" 97 97 48 Mpint false 48 0 0 true
    ∷ row 6 "ecdh-sha2-nistp521" 133 133 66 Mpint false 64 0 0 true
    ∷ row 7 "mlkem768nistp256-sha256" 1249 1153 32 Digest false 32 1184 1088 true
    ∷ row 8 "mlkem1024nistp384-sha384" 1665 1665 48 Digest false 48 1568 1568 true
    ∷ row 9 "mlkem768x25519-sha256" 1216 1120 32 Digest true 32 1184 1088 false
    ∷ []

-- no method
abbrev pub no_row : Method
no_row = row 0 "" 0 0 0 Mpint false 0 0 0 false

-- a row's name
abbrev pub name_of : Method → List ℕ
name_of r = take r.name_len r.name

-- the row with this number among some rows
abbrev pub row_in : ℕ → List Method → Method
row_in n [] = no_row
row_in n (r ∷ rs) = cond (eqb n r.number) r (row_in n rs)

-- the number of the row with this name among some rows, 0 with none
abbrev pub named : List ℕ → List Method → ℕ
named name [] = 0
named name (r ∷ rs) = cond (same name (name_of r)) r.number (named name rs)

-- a hybrid's K is a digest
abbrev pub hybrid : KForm → Bool
hybrid Mpint = false
hybrid Digest = true

-- the most bytes that K's body can have: X as a number and a zero byte ahead of it, or the digest
abbrev pub most_by : KForm → ℕ → ℕ → ℕ
most_by Mpint x digest = x + 1
most_by Digest x digest = digest

abbrev pub k_most : Method → ℕ
k_most r = most_by r.k_form r.x_len r.digest_len

-- the row of a method number, 1 to 9
unfoldable pub row_of : ℕ → Method
row_of n = row_in n rows

-- the number of a method's name
unfoldable pub number_of : List ℕ → ℕ
number_of name = named name rows
