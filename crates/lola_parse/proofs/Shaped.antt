-- Where a type stands at the front, its reader can only find its parts.
use Rattle.std.proofs.Common.{◌≡◌, ℕ, List, Some, None, sym, ap, subst, ◌∙◌}
use Rattle.lola_tree.specs.declared.named.Count.{Count}
use Rattle.lola_tree.specs.declared.named.Count.TheVariants as count
use Rattle.lola_tree.specs.declared.named.Shape.{Shape}
use Rattle.lola_tree.specs.declared.named.Shape.TheVariants as shape
use Rattle.lola_parse.specs.declared.symbol.Symbol.{Symbol}
use Rattle.lola_parse.specs.declared.symbol.Symbol.TheVariants as s
use Rattle.lola_parse.specs.declared.symbol.Language.TheVariants.{Design}
use Rattle.lola_parse.specs.declared.cursor.Next.{Next}
use Rattle.lola_parse.specs.Symbols.{Item}
use Rattle.lola_parse.specs.Grammar.{Stands, Passes, Counted}
use Rattle.lola_parse.specs.Design.{Shaped, vector, bits, bytes, words, vectors, width_of}
use Rattle.lola_parse.specs.Behind.{CountedShape, ShapeEnd, of_bits, of_bytes, of_words, of_vectors, VectorsBehind}
use Rattle.lola_parse.specs.MayEnd.{Sole}
use Rattle.lola_parse.specs.Read.{Anywhere}
use Rattle.lola_parse.proofs.Fronts.{IsNextOf}
use Rattle.lola_parse.proofs.Follow.{one_front}
use Rattle.lola_parse.proofs.Refer.{two_symbols}
use Rattle.lola_parse.proofs.Whole.{After, next_is}

-- the words of widths
pub shaped_word : {all rest first : List Item} {t : Shape} {symbol : Symbol} {width at : ℕ} → Shaped all t rest → Stands symbol at all first →
    width_of symbol ≡ Some width → (shape.Vector (count.Fixed width at) ≡ t) × (first ≡ rest)
shaped_word {width = width} {at = at} (vector {width = other} {at = place} stood is t_is) stands with =
    let f = one_front stands stood in
    let same : width ≡ other = let one = is in let two = with in let three = ap width_of f.symbol_is in cc in
    (ap (λ w. shape.Vector (count.Fixed w at)) same ∙ (ap (λ at. shape.Vector (count.Fixed other at)) f.at_is ∙ sym t_is), f.rest_is)
shaped_word {width = width} (bits first close behind stood c end bit is) stands with =
    absurd (let e : None ≡ Some width = ap width_of (one_front stood stands).symbol_is ∙ with in cc)
shaped_word {width = width} (bytes first close behind stood c end bit is) stands with =
    absurd (let e : None ≡ Some width = ap width_of (one_front stood stands).symbol_is ∙ with in cc)
shaped_word {width = width} (words first close behind stood c end bit is) stands with =
    absurd (let e : None ≡ Some width = ap width_of (one_front stood stands).symbol_is ∙ with in cc)
shaped_word {width = width} (vectors first close second third close2 behind stood c end again d end2 bit is) stands with =
    absurd (let e : None ≡ Some width = ap width_of (one_front stood stands).symbol_is ∙ with in cc)

moved_shape : {first other rest : List Item} {t : Shape} → first ≡ other → CountedShape first t rest → CountedShape other t rest
moved_shape {rest = rest} {t = t} e h = subst (λ first. CountedShape first t rest) e h

pub shaped_counted : {all rest first : List Item} {t : Shape} {at : ℕ} → Shaped all t rest → Stands s.OpenBracket at all first → CountedShape first t rest
shaped_counted (vector {width = width} stood is t_is) stands =
    absurd (let e : None ≡ Some width = ap width_of (one_front stands stood).symbol_is ∙ is in cc)
shaped_counted (bits {width = number} {bit_at = at} first close behind stood c end bit is) stands =
    moved_shape (one_front stood stands).rest_is record {
      number = number;
      close = close;
      behind = behind;
      counted = c;
      close_passed = (_, end);
      ends = of_bits bit is;
    }
shaped_counted (bytes {number = number} first close behind stood c end byte is) stands =
    moved_shape (one_front stood stands).rest_is record {
      number = number;
      close = close;
      behind = behind;
      counted = c;
      close_passed = (_, end);
      ends = of_bytes byte is;
    }
shaped_counted (words {number = number} first close behind stood c end word is) stands =
    moved_shape (one_front stood stands).rest_is record {
      number = number;
      close = close;
      behind = behind;
      counted = c;
      close_passed = (_, end);
      ends = of_words word is;
    }
shaped_counted (vectors {number = number} {width = width} first close second third close2 behind stood c end again d end2 bit is) stands =
    moved_shape (one_front stood stands).rest_is record {
      number = number;
      close = close;
      behind = second;
      counted = c;
      close_passed = (_, end);
      ends = of_vectors third again record {
        width = width;
        close = close2;
        behind = behind;
        width_read = d;
        close_passed = (_, end2);
        bit_passed = (_, bit);
        tree_is = is;
      };
    }

-- count "]" ..., behind the first "["
pub shape_close : {all rest b : List Item} {t : Shape} {number : Count} (h : CountedShape all t rest) → Sole (Counted Design all) Anywhere number b →
    Passes s.CloseBracket b h.behind
shape_close h sole = subst (λ all. Passes s.CloseBracket all h.behind) (sym (sole _ _ h.counted tt).1) h.close_passed

pub shape_ends : {all rest b behind : List Item} {t : Shape} {number : Count} (h : CountedShape all t rest) → Sole (Counted Design all) Anywhere number b →
    After s.CloseBracket b behind → ShapeEnd number behind t rest
shape_ends {rest = rest} {behind = behind} {t = t} h sole after =
    subst (λ number. ShapeEnd number behind t rest) (sym (sole _ _ h.counted tt).0)
    (subst (λ all. ShapeEnd h.number all t rest) (sym (after _ (shape_close h sole))) h.ends)

pub end_bits : {number : Count} {all rest first : List Item} {t : Shape} {at : ℕ} → ShapeEnd number all t rest → Stands s.Bit at all first →
    (shape.Vector number ≡ t) × (first ≡ rest)
end_bits (of_bits stood is) stands = (sym is, (one_front stands stood).rest_is)
end_bits (of_bytes stood is) stands = two_symbols stood stands (λ e. cc)
end_bits (of_words stood is) stands = two_symbols stood stands (λ e. cc)
end_bits (of_vectors behind stood h) stands = two_symbols stood stands (λ e. cc)

pub end_bytes : {number : Count} {all rest first : List Item} {t : Shape} {at : ℕ} → ShapeEnd number all t rest → Stands s.Byte at all first →
    (shape.Array number (count.Fixed 8 at) ≡ t) × (first ≡ rest)
end_bytes (of_bits stood is) stands = two_symbols stood stands (λ e. cc)
end_bytes {number = number} (of_bytes stood is) stands =
    let f = one_front stands stood in
    (ap (λ at. shape.Array number (count.Fixed 8 at)) f.at_is ∙ sym is, f.rest_is)
end_bytes (of_words stood is) stands = two_symbols stood stands (λ e. cc)
end_bytes (of_vectors behind stood h) stands = two_symbols stood stands (λ e. cc)

pub end_words : {number : Count} {all rest first : List Item} {t : Shape} {at : ℕ} → ShapeEnd number all t rest → Stands s.Word at all first →
    (shape.Array number (count.Fixed 32 at) ≡ t) × (first ≡ rest)
end_words (of_bits stood is) stands = two_symbols stood stands (λ e. cc)
end_words (of_bytes stood is) stands = two_symbols stood stands (λ e. cc)
end_words {number = number} (of_words stood is) stands =
    let f = one_front stands stood in
    (ap (λ at. shape.Array number (count.Fixed 32 at)) f.at_is ∙ sym is, f.rest_is)
end_words (of_vectors behind stood h) stands = two_symbols stood stands (λ e. cc)

pub end_vectors : {number : Count} {all rest first : List Item} {t : Shape} {at : ℕ} → ShapeEnd number all t rest → Stands s.OpenBracket at all first →
    VectorsBehind number first t rest
end_vectors (of_bits stood is) stands = two_symbols stood stands (λ e. cc)
end_vectors (of_bytes stood is) stands = two_symbols stood stands (λ e. cc)
end_vectors (of_words stood is) stands = two_symbols stood stands (λ e. cc)
end_vectors {number = number} {rest = rest} {t = t} (of_vectors behind stood h) stands =
    subst (λ first. VectorsBehind number first t rest) (one_front stood stands).rest_is h

pub end_none : {number : Count} {all rest : List Item} {t : Shape} (n : Next) → IsNextOf all n → (n.symbol ≡ s.Bit → ⊥) → (n.symbol ≡ s.Byte → ⊥) →
    (n.symbol ≡ s.Word → ⊥) → (n.symbol ≡ s.OpenBracket → ⊥) → ShapeEnd number all t rest → ⊥
end_none {all = all} n next bit byte word bracket (of_bits stood is) = bit (sym (next_is all n next stood).symbol_is)
end_none {all = all} n next bit byte word bracket (of_bytes stood is) = byte (sym (next_is all n next stood).symbol_is)
end_none {all = all} n next bit byte word bracket (of_words stood is) = word (sym (next_is all n next stood).symbol_is)
end_none {all = all} n next bit byte word bracket (of_vectors behind stood h) = bracket (sym (next_is all n next stood).symbol_is)

-- count "]" "BIT", behind the second "["
pub vectors_close : {number : Count} {all rest b : List Item} {t : Shape} {width : Count} (h : VectorsBehind number all t rest) →
    Sole (Counted Design all) Anywhere width b → Passes s.CloseBracket b h.behind
vectors_close h sole = subst (λ all. Passes s.CloseBracket all h.behind) (sym (sole _ _ h.width_read tt).1) h.close_passed

pub vectors_bit : {number : Count} {all rest b behind : List Item} {t : Shape} {width : Count} (h : VectorsBehind number all t rest) →
    Sole (Counted Design all) Anywhere width b → After s.CloseBracket b behind → Passes s.Bit behind rest
vectors_bit {rest = rest} h sole after = subst (λ all. Passes s.Bit all rest) (sym (after _ (vectors_close h sole))) h.bit_passed
