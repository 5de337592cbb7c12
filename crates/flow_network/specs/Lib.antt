pub mod Marks
pub mod Given
pub mod FaceNet
