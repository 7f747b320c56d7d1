use Rattle.std.proofs.Common.{◌≡◌, ℕ, ◌+◌, ◌*◌, ◌<◌, List, [], ◌∷◌, ◌++◌, length, map, subst, sym, ◌∙◌, arith}
use Rattle.std.proofs.lemmas.List.{length-map, length-append, map_push}
use Rattle.onbar_grammar.specs.Script.{Space}
use Rattle.site_headers.specs.declared.heads.SpaceHead.{SpaceHead}
use Rattle.site_headers.specs.Parts.{HasNewSpace, BeginsWithSpaces}
use Rattle.site_headers.specs.Views.{space_of}
use Rattle.site_headers.proofs.SpaceLemmas.{next_space, BeginsWithSpaces-push}
use Rattle.site_headers.proofs.spaces.spaces_of.Invariants.{HasRead}
use Rattle.site_headers.proofs.spaces.spaces_of.Goals as goal

length-read : (bytes : List ℕ) (n : ℕ) (heads : List SpaceHead) → HasRead bytes n heads → length (map space_of heads) ≡ n
length-read bytes n heads read = length-map heads space_of ∙ read.so_many

-- one more space is read
HasRead-push : (bytes : List ℕ) (n : ℕ) (heads : List SpaceHead) (head : SpaceHead) → HasRead bytes n heads
    → HasNewSpace (24 * n) bytes (map space_of heads) (space_of head) → HasRead bytes (n + 1) (heads ++ head ∷ [])
HasRead-push bytes n heads head read has =
    let placed : HasNewSpace (24 * length (map space_of heads)) bytes (map space_of heads) (space_of head) = rw (length-read bytes n heads read) has in
    record {
      begins = rw (map_push space_of heads head) (BeginsWithSpaces-push bytes (map space_of heads) (space_of head) read.begins placed);
      so_many = omega (arith, length-append heads (head ∷ []), read.so_many);
    }

-- where the bytes begin with more spaces, one can be read
next_head : (bytes : List ℕ) (n : ℕ) (heads seen : List SpaceHead) (spaces : List Space) → seen ≡ heads → HasRead bytes n heads
    → BeginsWithSpaces bytes spaces → n < length spaces → (head : SpaceHead) × HasNewSpace (24 * n) bytes (map space_of seen) (space_of head)
next_head bytes n heads seen spaces same read begins more =
    let next = next_space bytes (map space_of heads) spaces read.begins begins (omega (arith, length-read bytes n heads read, more)) in
    let head : SpaceHead = record { name = next.0.name; pages = next.0.pages } in
    let placed = subst (λ (k : ℕ). HasNewSpace (24 * k) bytes (map space_of heads) next.0) (length-read bytes n heads read) next.1 in
    (head, subst (λ (xs : List SpaceHead). HasNewSpace (24 * n) bytes (map space_of xs) next.0) (sym same) placed)

pub loop-i-preserved : goal.loop-i-preserved
loop-i-preserved c =
    let has = rw c.deref.ensures.value at c.in-Some.ensures.found in
    rw c.in_ok-push.ensures.items (HasRead-push c.args.bytes.now c.loop-i.i c.loop-i.spaces.items c.in-Some.space c.loop-i.invariant has)

pub returns-in_default-clause-only : goal.returns-in_default-clause-only
returns-in_default-clause-only c spaces counted begins =
    let next = next_head c.args.bytes.now c.loop-i.i c.loop-i.spaces.items c.deref.result.now spaces c.deref.ensures.value c.loop-i.invariant begins (omega arith) in
    cc (c.in_default.ensures.only next.0 next.1)
