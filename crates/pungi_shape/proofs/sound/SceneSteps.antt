-- What the small changes of a scene keep.
pub use Rattle.pungi_shape.proofs.sound.SceneWords.{with_contents, with_world, with_debts, counted, named}
pub use Rattle.pungi_shape.proofs.sound.SceneVars.{atom_holds, atom_number, atom_width, atom_live, with_var_scene}
pub use Rattle.pungi_shape.proofs.sound.SceneVars.{with_var_shows, with_var_dead}
pub use Rattle.pungi_shape.proofs.sound.SceneBalances.{counted_value, debts_show, add_scene, add_shows}
pub use Rattle.pungi_shape.proofs.sound.SceneBalances.{with_token_scene, with_token_shows, new_token_live}
pub use Rattle.pungi_shape.proofs.sound.SceneMerges.{merge_scene, merge_shows}
pub use Rattle.pungi_shape.proofs.sound.SceneSlots.{track_scene, track_shows, put_slot_scene, put_slot_shows}
pub use Rattle.pungi_shape.proofs.sound.SceneSlots.{forget_scene, forget_shows}
