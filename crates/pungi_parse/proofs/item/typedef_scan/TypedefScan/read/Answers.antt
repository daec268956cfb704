use Rattle.std.proofs.Common.{◌≡◌, ◌++◌, option_to_list, rules}
use Rattle.pungi_base.specs.declared.key.Key.TheVariants as keys
use Rattle.pungi_base.specs.declared.kind.Kind.TheVariants as kind
use Rattle.pungi_base.specs.declared.punct.Punct.TheVariants as puncts
use Rattle.pungi_parse.specs.item.TypedefScan.{copies}
use Rattle.pungi_parse.proofs.item.TypedefScan.{scan_semicolon, scan_typedef, scan_word}
use Rattle.pungi_parse.proofs.item.typedef_scan.TypedefScan.read.Goals as goal

pub returns-in_ok-add_copies-in-Punct-Semicolon-clause-words :
    goal.returns-in_ok-add_copies-in-Punct-Semicolon-clause-words
returns-in_ok-add_copies-in-Punct-Semicolon-clause-words c =
    let s = c.args.self.now in
    let same : c.args.kind ≡ kind.Punct puncts.Semicolon = search rules in
    let added : c.add_copies.new.words.items ≡ s.words.items ++ copies s.older (option_to_list s.last) = search rules in
    λ ks. rw (same, added) (scan_semicolon s.words.items s.braces s.last s.older s.newer ks c.if-self-eq0.true)

pub returns-in-Key-Typedef-clause-words : goal.returns-in-Key-Typedef-clause-words
returns-in-Key-Typedef-clause-words c =
    let s = c.args.self.now in
    let same : c.args.kind ≡ kind.Key keys.Typedef = search rules in
    λ ks. rw same (scan_typedef s.words.items s.braces s.last s.older s.newer ks c.if-self-eq0-2.true)

pub returns-in-Word-clause-words : goal.returns-in-Word-clause-words
returns-in-Word-clause-words c =
    let s = c.args.self.now in
    λ ks. rw c.in-Word.is (scan_word s.words.items s.braces s.last s.older s.newer c.in-Word.name ks)
