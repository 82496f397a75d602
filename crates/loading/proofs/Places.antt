-- The first block at fault, by its place in the list.
use Rattle.std.proofs.Common.{◌≡◌, ℕ, not, ◌&&◌, List, length, sym, refl}
use Rattle.std.specs.List.{position}
use Rattle.rules.specs.declared.blocks.Size.{Size}
use Rattle.rules.specs.declared.blocks.Children.{Children}
use Rattle.rules.specs.Plans.{size_fits}
use Rattle.rules.specs.Letters.{letter_of}
use Rattle.rules.specs.Loads.{first, is_some, link_fits, wrong_size, wrong_letter, wrong_children}
use Rattle.loading.proofs.Firsts.{first_place}

pub size_place : (ss : List Size) → first (wrong_size ss) 0 (length ss) ≡ position (λ s. not (size_fits s)) ss
size_place ss = sym (first_place (wrong_size ss) (λ s. not (size_fits s)) _ ss (λ k h. refl))

pub letter_place : (ls : List ℕ) → first (wrong_letter ls) 0 (length ls) ≡ position (λ l. not (is_some (letter_of l))) ls
letter_place ls = sym (first_place (wrong_letter ls) (λ l. not (is_some (letter_of l))) _ ls (λ k h. refl))

pub children_place : (cs : List Children)
    → first (wrong_children cs) 0 (length cs) ≡ position (λ p. not (link_fits (length cs) p.left && link_fits (length cs) p.right)) cs
children_place cs = sym (first_place (wrong_children cs) (λ p. not (link_fits (length cs) p.left && link_fits (length cs) p.right)) _ cs (λ k h. refl))
