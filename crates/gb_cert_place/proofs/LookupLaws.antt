-- Looking up a byte's field, as a loop does.
use Rattle.std.proofs.Common.{◌≡◌, ℕ, ◌+◌, ◌-◌, ◌≤◌, ◌<◌, true, false, nat_lt, length, drop, slice_index_or, sym, ◌∙◌, ap, arith}
use Rattle.std.proofs.lemmas.List.{drop_more, drop_all}
use Rattle.std.proofs.lemmas.Bool.Decides.{nat_tests}
use Rattle.gb_cert_place.specs.declared.field.Field.{Field}
use Rattle.gb_cert_place.specs.Layout.{Layout, lookup, choose}

pub lookup_here : (found d : Field × ℕ) (start i byte : ℕ) (layout : Layout) → i < length layout → start ≤ byte → byte - start < (slice_index_or layout i d).1 → lookup found start (drop i layout) byte ≡ ((slice_index_or layout i d).0, start)
unfolding lookup
lookup_here found d start i byte layout lt le h =
    let f : Field × ℕ = slice_index_or layout i d in
    let k : nat_lt byte (start + f.1) ≡ true = grind (arith, nat_tests) in
    ap (λ l. lookup found start l byte) (drop_more layout i d lt) ∙ ap (λ b. choose b (f.0, start) (lookup (f.0, start) (start + f.1) (drop (i + 1) layout) byte)) k

pub lookup_on : (found d : Field × ℕ) (start i byte : ℕ) (layout : Layout) → i < length layout → start ≤ byte → (slice_index_or layout i d).1 ≤ byte - start
    → lookup ((slice_index_or layout i d).0, start) (start + (slice_index_or layout i d).1) (drop (i + 1) layout) byte ≡ lookup found start (drop i layout) byte
unfolding lookup
lookup_on found d start i byte layout lt le h =
    let f : Field × ℕ = slice_index_or layout i d in
    let k : nat_lt byte (start + f.1) ≡ false = grind (arith, nat_tests) in
    sym (ap (λ l. lookup found start l byte) (drop_more layout i d lt) ∙ ap (λ b. choose b (f.0, start) (lookup (f.0, start) (start + f.1) (drop (i + 1) layout) byte)) k)

pub lookup_end : (found : Field × ℕ) (start i byte : ℕ) (layout : Layout) → length layout ≤ i → lookup found start (drop i layout) byte ≡ found
unfolding lookup
lookup_end found start i byte layout le = ap (λ l. lookup found start l byte) (drop_all i layout le)
